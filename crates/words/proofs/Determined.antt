-- Any two outcomes that a public function's contract permits are equal: the answer, and the lent buffer afterwards.
use mathlib.Core.Path.{◌≡◌, sym, ◌∙◌}
use mathlib.Core.List.{List}
use Prim.Native.Nat.{ℕ}
use lib.IntN.{ℤ}
use Rattle.std.specs.Prelude.{Option}
use Rattle.values.proofs.Determined.{determined}
use Rattle.words.specs.Zeros.{Filled}
use Rattle.words.proofs.put_bytes.Reads as put-bytes
use Rattle.words.proofs.put_decimal.Reads as put-decimal
use Rattle.words.proofs.put_signed.Reads as put-signed
use Rattle.words.proofs.read_digits.Reads as read-digits
use Rattle.words.proofs.read_signed.Reads as read-signed
use Rattle.words.proofs.byte_at.Reads as byte_at
use Rattle.words.proofs.hex_byte.Reads as hex-byte
use Rattle.words.proofs.hex_bytes.Reads as hex_bytes_lem
use Rattle.words.proofs.nearest.Reads as nearest
use Rattle.words.proofs.next_line.Reads as next-line

pub put_bytes_determined : (κs a : _) (r q : ℕ) (s t : _) → put-bytes.Post κs a r s → put-bytes.Post κs a q t → (r ≡ q) × (s.0.now ≡ t.0.now)
put_bytes_determined κs a r q s t h k = (determined h.0 k.0, determined h.1 k.1)

pub put_decimal_determined : (κs a : _) (r q : ℕ) (s t : _) → put-decimal.Post κs a r s → put-decimal.Post κs a q t → (r ≡ q) × (s.0.now ≡ t.0.now)
put_decimal_determined κs a r q s t h k = (determined h.0 k.0, determined h.1 k.1)

pub put_signed_determined : (κs a : _) (r q : ℕ) (s t : _) → put-signed.Post κs a r s → put-signed.Post κs a q t → (r ≡ q) × (s.0.now ≡ t.0.now)
put_signed_determined κs a r q s t h k = (determined h.0 k.0, determined h.1 k.1)

pub read_digits_determined : (κs a r q s t : _) → read-digits.Post κs a r s → read-digits.Post κs a q t → (r.value ≡ q.value) × (r.next ≡ q.next)
read_digits_determined κs a r q s t h k = (determined h.1.0 k.1.0, determined h.0 k.0)

pub read_signed_determined : (κs a r q s t : _) → read-signed.Post κs a r s → read-signed.Post κs a q t → (r.value ≡ q.value) × (r.next ≡ q.next)
read_signed_determined κs a r q s t h k = (determined h.1 k.1, determined h.0 k.0)

pub byte_at_determined : (κs a : _) (r q : ℕ) (s t : _) → byte_at.Post κs a r s → byte_at.Post κs a q t → r ≡ q
byte_at_determined κs a r q s t = determined

pub hex_byte_determined : (κs a : _) (r q : Option ℕ) (s t : _) → hex-byte.Post κs a r s → hex-byte.Post κs a q t → r ≡ q
hex_byte_determined κs a r q s t = determined

pub hex_bytes_determined : (κs a : _) (r q : ℕ) (s t : _) → hex_bytes_lem.Post κs a r s → hex_bytes_lem.Post κs a q t → (r ≡ q) × (s.1.1.0.now ≡ t.1.1.0.now)
hex_bytes_determined κs a r q s t h k = (determined h.0 k.0, determined h.1.0 k.1.0)

pub nearest_determined : (κs a : _) (r q : ℤ) (s t : _) → nearest.Post κs a r s → nearest.Post κs a q t → r ≡ q
nearest_determined κs a r q s t = determined

pub next_line_determined : (κs a : _) (r q : ℕ) (s t : _) → next-line.Post κs a r s → next-line.Post κs a q t → r ≡ q
next_line_determined κs a r q s t = determined

-- of `full`, on the definition that its contract cites
pub full_determined : {A : Type 0} {x : A} {n : ℕ} {r q : List A} → Filled x n r → Filled x n q → r ≡ q
full_determined h k = h.all ∙ sym k.all
