-- Answers says one answer, and one store or buffer: `read_one`, `save_one`. Assumes nothing.
use Prim.Native.Nat.{ℕ}
use mathlib.Core.Path.{◌≡◌, refl, sym, ap, ◌∙◌, subst}
use mathlib.Core.List.{List, ◌++◌}
use lib.ListN.{length, drop}
use native.Mathlib.Omega.{arith}
use Rattle.std.proofs.Common.{Result, Ok, Err}
use Rattle.refusals.specs.declared.Refusal.{Refusal}
use Rattle.codes.specs.Codes.{AllBytes}
use Rattle.place.specs.declared.Place.{Place as Held}
use Rattle.place.specs.Places.{Place}
use Rattle.place.specs.Slots.{held}
use Rattle.place.proofs.Held.{held_injective}
use Rattle.order.specs.Trees.{Tree, cells}
use Rattle.program.specs.Says.{Accepts}
use Rattle.program.proofs.CheckSays.{accepts_unique}
use Rattle.moves.specs.Places.{Fits}
use Rattle.moves.specs.Stores.{Store}
use Rattle.session.specs.Session.{encode, Reads}
use Rattle.session.proofs.Reading.{encode_injective}
use Rattle.machine.specs.Answers as machine
use Rattle.machine.proofs.Giving.{refusal_one}
use Rattle.machine.proofs.OneAnswer.{no_way, not_both, faults_one, before_ready}
use Rattle.machine.proofs.OneAnswer as machine-one
use Rattle.saved.specs.Answers.{ReadBefore, program, malformed, size, place, Found, ReadSays, SaveBefore, before, short, Saved, SaveSays}

-- a file says one place and one store
pub reads_one : {s : List ℕ} {p p' : Place} {zs zs' : Store} → Reads s p zs → Reads s p' zs' → (p ≡ p') × (zs ≡ zs')
reads_one {p = p} {p'} {zs} {zs'} r r' = encode_injective p p' zs zs' r.fit r'.fit (sym r.file ∙ r'.file)

module _ (f : List ℕ) (B : AllBytes f) where
  -- ---- reading
  -- what is sized and fits for one tree and place of the file is so for the other
  fits_one : {s : List ℕ} {t t' : Tree} {p p' : Place} {zs zs' : Store} → Accepts f t → Accepts f t' → Reads s p zs → Reads s p' zs' → Fits t p → Fits t' p'
  fits_one {t = t} {t'} {p} {p'} A A' r r' y = subst (λ t. Fits t p') (accepts_unique f B t t' A A') (subst (Fits t) (reads_one r r').0 y)

  size_place : {s : List ℕ} (σ : Store) {t t' : Tree} {p p' : Place} {zs zs' : Store} → Accepts f t → Reads s p zs → ((length zs ≡ cells t) × (length σ ≡ cells t) → ⊥)
      → Accepts f t' → Reads s p' zs' → length zs' ≡ cells t' → length σ ≡ cells t' → ⊥
  size_place σ {t} {t'} A r h A' r' e e' =
      let c = ap cells (accepts_unique f B t' t A' A) in h (ap length (reads_one r r').1 ∙ e ∙ c, e' ∙ c)

  module _ (s : List ℕ) (σ : Store) where
    pub before_one : {m k m' k' : ℕ} → ReadBefore f s σ m k → ReadBefore f s σ m' k' → (m ≡ m') × (k ≡ k')
    before_one (program x) (program x') = faults_one B x x'
    before_one (program x) (malformed A h) = no_way (not_both B A x)
    before_one (program x) (size A r h) = no_way (not_both B A x)
    before_one (program x) (place A r e e' h) = no_way (not_both B A x)
    before_one (malformed A h) (program x) = no_way (not_both B A x)
    before_one (malformed A h) (malformed A' h') = (refl, refl)
    before_one (malformed A h) (size {p = p} {zs = zs} A' r h') = no_way (h p zs r)
    before_one (malformed A h) (place {p = p} {zs = zs} A' r e e' h') = no_way (h p zs r)
    before_one (size A r h) (program x) = no_way (not_both B A x)
    before_one (size {p = p} {zs = zs} A r h) (malformed A' h') = no_way (h' p zs r)
    before_one (size A r h) (size A' r' h') = (refl, refl)
    before_one (size A r h) (place A' r' e e' h') = no_way (size_place σ A r h A' r' e e')
    before_one (place A r e e' h) (program x) = no_way (not_both B A x)
    before_one (place {p = p} {zs = zs} A r e e' h) (malformed A' h') = no_way (h' p zs r)
    before_one (place A r e e' h) (size A' r' h') = no_way (size_place σ A' r' h' A r e e')
    before_one (place A r e e' h) (place A' r' d d' h') = (refl, refl)

    pub before_found : {m k : ℕ} {q : Held} {τ : Store} → ReadBefore f s σ m k → Found f s σ q τ → ⊥
    before_found (program x) F = not_both B F.ready.accepts x
    before_found (malformed A h) F = h _ _ F.reads
    before_found (size A r h) F = size_place σ A r h F.ready.accepts F.reads F.ready.sized F.lent
    before_found (place A r d d' h) F = h (fits_one F.ready.accepts A F.reads r F.ready.fits)

    pub read_one : (a a' : Result Held Refusal) (τ τ' : Store) → ReadSays f s σ a τ → ReadSays f s σ a' τ' → (a ≡ a') × (τ ≡ τ')
    read_one (Err r) (Err r') τ τ' x y = let z = before_one x.0 y.0 in (ap Err (refusal_one r r' z.0 z.1), x.1 ∙ sym y.1)
    read_one (Err r) (Ok q) τ τ' x F = no_way (before_found x.0 F)
    read_one (Ok q) (Err r) τ τ' F y = no_way (before_found y.0 F)
    read_one (Ok q) (Ok q') τ τ' F F' = let z = reads_one F.reads F'.reads in (ap Ok (F.ready.holds ∙ ap held z.0 ∙ sym F'.ready.holds), z.1)

  -- ---- saving
  module _ (q : Held) (σ : Store) where
    never_both : {X : Type 0} {m k : ℕ} {t : Tree} {p : Place} → machine.Before f q σ m k → machine.Ready f q σ t p → X
    never_both b R = no_way (before_ready B b R)

    pub place_one : {t t' : Tree} {p p' : Place} → machine.Ready f q σ t p → machine.Ready f q σ t' p' → p ≡ p'
    place_one {p = p} {p'} R R' = held_injective p p' (sym R.holds ∙ R'.holds)

    module _ (buf : List ℕ) where
      save_before_one : {m k m' k' : ℕ} → SaveBefore f q σ buf m k → SaveBefore f q σ buf m' k' → (m ≡ m') × (k ≡ k')
      save_before_one (before b) (before b') = machine-one.before_one B b b'
      save_before_one (before b) (short R h) = never_both b R
      save_before_one (short R h) (before b) = never_both b R
      save_before_one (short R h) (short R' h') = (refl, refl)

      before_saved : {m k n : ℕ} {x : List ℕ} → SaveBefore f q σ buf m k → Saved f q σ buf n x → ⊥
      before_saved (before b) S = never_both b S.ready
      before_saved (short {p = p} R h) S =
          let e : length (encode p σ) ≡ length (encode S.place σ) = ap (λ p. length (encode p σ)) (place_one R S.ready) in omega (arith, S.room)

      pub save_one : (a a' : Result ℕ Refusal) (l l' : List ℕ) → SaveSays f q σ buf a l → SaveSays f q σ buf a' l' → (a ≡ a') × (l ≡ l')
      save_one (Err r) (Err r') l l' x y = let z = save_before_one x.0 y.0 in (ap Err (refusal_one r r' z.0 z.1), x.1 ∙ sym y.1)
      save_one (Err r) (Ok n) l l' x S = no_way (before_saved x.0 S)
      save_one (Ok n) (Err r) l l' S y = no_way (before_saved y.0 S)
      save_one (Ok n) (Ok n') l l' S S' =
          let z = place_one S.ready S'.ready in (
            ap Ok (S.count ∙ ap (λ p. length (encode p σ)) z ∙ sym S'.count),
            S.bytes ∙ ap (λ p. encode p σ ++ drop (length (encode p σ)) buf) z ∙ sym S'.bytes,
          )
