-- The promises about session files, of the code's own answers as their contracts say them. Assumes nothing.
--     saved_reads_back   what a save wrote reads back as the same place and store
--     files_differ       two saves of one file are of one place and store: different ones have different files
--     one_file           one place and store has at most one file that reads as it (that there is one: saved_reads_back)
--     read_then_saved    what is read and saved again is the same bytes
--     saved_beyond       the bytes after the written ones keep their values; where a save is refused, all of them
use Prim.Native.Nat.{ℕ, ◌^◌, ◌≤◌, ◌<◌}
use mathlib.Core.Path.{◌≡◌, sym, ap, ◌∙◌, subst}
use mathlib.Core.List.{List, ◌++◌}
use lib.IntN.{pos}
use lib.ListN.{length, get_or, take, drop}
use lib.Seq.{take_at, drop_at}
use native.Mathlib.Omega.{arith}
use mir.Syntax.{w32}
use mir.Val.{SFits}
use Rattle.std.proofs.Common.{Result, Ok, Err}
use Rattle.refusals.specs.declared.Refusal.{Refusal}
use Rattle.codes.specs.Codes.{AllBytes}
use Rattle.place.specs.declared.Place.{Place as Held}
use Rattle.place.specs.Places.{Place}
use Rattle.place.specs.Slots.{held, seen}
use Rattle.place.proofs.Held.{held_injective, seen_held}
use Rattle.order.specs.Trees.{Tree}
use Rattle.moves.specs.Stores.{Store}
use Rattle.fits.proofs.Few.{frames_few}
use Rattle.session.specs.Session.{encode, Fit}
use Rattle.session.specs.Parts.{LabelsFit}
use Rattle.session.proofs.Reading.{encode_injective}
use Rattle.session.proofs.Round.{labels_in}
use Rattle.machine.specs.Answers as machine
use Rattle.saved.specs.Answers.{ReadSays, Saved, SaveSays}
use Rattle.program.proofs.Few.{cells_few}
use Rattle.saved.proofs.OneAnswer.{read_one, save_one}

-- what a struct and a store have from their types: the numbers are u16, the cells i32
pub record Typed (q : Held) (σ : Store) : Type 0 where
  pub a : q.a < 2 ^ 16
  pub b : q.b < 2 ^ 16
  pub labels : (k : ℕ) → get_or q.labels k 0 < 2 ^ 16
  pub cells : (i : ℕ) → SFits w32 (get_or σ i (pos 0))

-- a place and a store that a program may have fit a file
ready_fit : {f : List ℕ} {q : Held} {σ : Store} {t : Tree} {p : Place} → Typed q σ → machine.Ready f q σ t p → Fit p σ
ready_fit {q = q} {t = t} {p} T R =
    let e : seen q ≡ p = ap seen R.holds ∙ seen_held p in
    record {
      a = subst (λ (p : Place). p.a < 65536) e T.a;
      b = subst (λ (p : Place). p.b < 65536) e T.b;
      frames = frames_few R.accepts p R.fits;
      labels = subst (λ (p : Place). LabelsFit p.frames) e (labels_in q.count q.kinds q.labels T.labels);
      count = omega (arith, R.sized, cells_few R.accepts);
      cells = T.cells;
    }

-- the bytes that a save wrote
wrote : {f : List ℕ} {q : Held} {σ : Store} {buf : List ℕ} {n : ℕ} {out : List ℕ} → (S : Saved f q σ buf n out) → take n out ≡ encode S.place σ
wrote {σ = σ} {n = n} S = ap (take n) S.bytes ∙ take_at (encode S.place σ) _ n (sym S.count)

module _ (f : List ℕ) (B : AllBytes f) (q : Held) (σ : Store) where
  pub saved_reads_back : (buf out : List ℕ) (n : ℕ) (st st' : Store) (a : Result Held Refusal) → Typed q σ → SaveSays f q σ buf (Ok n) out
      → ReadSays f (take n out) st a st' → length st ≡ length σ → (a ≡ Ok q) × (st' ≡ σ)
  saved_reads_back buf out n st st' a T S y l =
      let z : ReadSays f (take n out) st (Ok q) σ = record { tree = S.tree; place = S.place; reads = record { fit = ready_fit T S.ready; file = wrote S }; ready = S.ready; lent = l ∙ S.ready.sized } in
      read_one f B (take n out) st a (Ok q) st' σ y z

  pub read_then_saved : (s buf out : List ℕ) (st : Store) (a : Result ℕ Refusal) → ReadSays f s st (Ok q) σ → SaveSays f q σ buf a out → length s ≤ length buf
      → (a ≡ Ok (length s)) × (out ≡ s ++ drop (length s) buf)
  read_then_saved s buf out st a F y h =
      let z : SaveSays f q σ buf (Ok (length s)) (s ++ drop (length s) buf) =
      record {
        tree = F.tree;
        place = F.place;
        ready = F.ready;
        room = subst (λ (x : List ℕ). length x ≤ length buf) F.reads.file h;
        count = ap length F.reads.file;
        bytes = ap (λ (x : List ℕ). x ++ drop (length x) buf) F.reads.file;
      } in
      save_one f B q σ buf a (Ok (length s)) out _ y z

pub one_file : {f : List ℕ} {q : Held} {σ : Store} {s s' : List ℕ} {st st' : Store} → ReadSays f s st (Ok q) σ → ReadSays f s' st' (Ok q) σ → s ≡ s'
one_file {σ = σ} F F' =
    let z : F.place ≡ F'.place = held_injective F.place F'.place (sym F.ready.holds ∙ F'.ready.holds) in F.reads.file ∙ ap (λ p. encode p σ) z ∙ sym F'.reads.file

pub files_differ : {f : List ℕ} {q q' : Held} {σ σ' : Store} {buf buf' out out' : List ℕ} {n n' : ℕ} → Typed q σ → Typed q' σ'
    → SaveSays f q σ buf (Ok n) out → SaveSays f q' σ' buf' (Ok n') out' → take n out ≡ take n' out' → (q ≡ q') × (σ ≡ σ')
files_differ {σ = σ} {σ'} T T' S S' e =
    let z = encode_injective S.place S'.place σ σ' (ready_fit T S.ready) (ready_fit T' S'.ready) (sym (wrote S) ∙ e ∙ wrote S') in
    (S.ready.holds ∙ ap held z.0 ∙ sym S'.ready.holds, z.1)

-- "the bytes written, 0 if refused"
abbrev pub written : Result ℕ Refusal → ℕ
written (Ok n) = n
written (Err r) = 0

pub saved_beyond : (f : List ℕ) (q : Held) (σ : Store) (buf out : List ℕ) (a : Result ℕ Refusal) → SaveSays f q σ buf a out → drop (written a) out ≡ drop (written a) buf
saved_beyond f q σ buf out (Err r) x = x.1
saved_beyond f q σ buf out (Ok n) S = ap (drop n) S.bytes ∙ drop_at (encode S.place σ) _ n (sym S.count) ∙ ap (λ (k : ℕ). drop k buf) (sym S.count)
