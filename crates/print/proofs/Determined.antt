-- Any two outcomes that a public function's contract permits are equal: the answer, and the lent buffer afterwards.
use mathlib.Core.Path.{◌≡◌, sym, ◌∙◌}
use Prim.Native.Nat.{ℕ}
use Rattle.print.proofs.reason.Reads as reason
use Rattle.print.proofs.put_refused.Reads as Put-refused
use Rattle.print.proofs.put_steps.Reads as put-steps
use Rattle.print.proofs.put_at.Reads as put-at
use Rattle.print.proofs.put_accepted.Reads as put-accepted
use Rattle.print.proofs.put_frames.Reads as put-frames
use Rattle.print.proofs.put_cells.Reads as put-cells

determined : {A B : Type 0} {f r q : A} {g c d : B} → (r ≡ f) × (c ≡ g) → (q ≡ f) × (d ≡ g) → (r ≡ q) × (c ≡ d)
determined h k = (h.0 ∙ sym k.0, h.1 ∙ sym k.1)

pub put_refused_determined : (κs a : _) (r q : ℕ) (s t : _) → Put-refused.Post κs a r s → Put-refused.Post κs a q t → (r ≡ q) × (s.0.now ≡ t.0.now)
put_refused_determined κs a r q s t h k = determined h k

pub put_steps_determined : (κs a : _) (r q : ℕ) (s t : _) → put-steps.Post κs a r s → put-steps.Post κs a q t → (r ≡ q) × (s.0.now ≡ t.0.now)
put_steps_determined κs a r q s t h k = determined h k

pub put_at_determined : (κs a : _) (r q : ℕ) (s t : _) → put-at.Post κs a r s → put-at.Post κs a q t → (r ≡ q) × (s.0.now ≡ t.0.now)
put_at_determined κs a r q s t h k = determined h k

pub put_accepted_determined : (κs a : _) (r q : ℕ) (s t : _) → put-accepted.Post κs a r s → put-accepted.Post κs a q t → (r ≡ q) × (s.0.now ≡ t.0.now)
put_accepted_determined κs a r q s t h k = determined h k

pub put_frames_determined : (κs a : _) (r q : ℕ) (s t : _) → put-frames.Post κs a r s → put-frames.Post κs a q t → (r ≡ q) × (s.0.now ≡ t.0.now)
put_frames_determined κs a r q s t h k = determined h k

pub put_cells_determined : (κs a : _) (r q : ℕ) (s t : _) → put-cells.Post κs a r s → put-cells.Post κs a q t → (r ≡ q) × (s.0.now ≡ t.0.now)
put_cells_determined κs a r q s t h k = determined h k

pub reason_determined : (κs a : _) (r q : ℕ) (s t : _) → reason.Post κs a r s → reason.Post κs a q t → r ≡ q
reason_determined κs a r q s t h k = h ∙ sym k
