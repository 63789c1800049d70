-- For each public function: any two outcomes that its contract permits are equal, the answer and the session or buffer together.
-- `Post κs a r s` is the contract as the check reads it. Of the functions over a session that is lent the theorems are stated of the
-- definition that the contract cites, at the answer and the session afterwards.
-- A file's elements are bytes, as its type says.
use Prim.Native.Nat.{ℕ}
use mathlib.Core.List.{List}
use mathlib.Core.Path.{◌≡◌, ap}
use contract.Lifetimes.{Lfts}
use Rattle.codes.specs.Codes.{AllBytes}
use Rattle.order.specs.Trees.{Tree}
use Rattle.moves.specs.Places.{Place}
use Rattle.moves.specs.Stores.{Answer as Arrival, Store}
use Rattle.moves.specs.Step.{step, step_back}
use Rattle.moves.specs.Runs.{Ran, run, run_back}
use Rattle.desk.specs.declared.Session.{Session}
use Rattle.desk.specs.declared.Answer.{Answer}
use Rattle.desk.specs.declared.Outcome.{Outcome}
use Rattle.desk.specs.Desk.{made, SteppedSays, RanSays, BeginSays, OpenSays, SavingSays}
use Rattle.desk.proofs.OneAnswer.{stepped_one, ran_one, begin_one, open_one, saving_one, check_one}
use Rattle.desk.proofs.ran.Reads as ran
use Rattle.desk.proofs.ran_back.Reads as ran-back
use Rattle.desk.proofs.stepped.Reads as stepped
use Rattle.desk.proofs.stepped_back.Reads as stepped-back
use Rattle.desk.proofs.started.Reads as started
use Rattle.desk.proofs.opened.Reads as opened
use Rattle.desk.proofs.saving.Reads as saving
use Rattle.desk.proofs.ladrukhi_check.Reads as check

module _ (κs : Lfts 1) where
  pub ran_determined : (a : _) (r r' : _) (s s' : _) → ran.Post κs a r s → ran.Post κs a r' s' → AllBytes a.0.now → r ≡ r'
  ran_determined a r r' s s' p q B = ran_one B _ run _ p q

  pub ran_back_determined : (a : _) (r r' : _) (s s' : _) → ran-back.Post κs a r s → ran-back.Post κs a r' s' → AllBytes a.0.now → r ≡ r'
  ran_back_determined a r r' s s' p q B = ran_one B _ run_back _ p q

  pub stepped_determined : (a : _) (r r' : _) (s s' : _) → stepped.Post κs a r s → stepped.Post κs a r' s' → AllBytes a.0.now → r ≡ r'
  stepped_determined a r r' s s' p q B = stepped_one B _ step p q

  pub stepped_back_determined : (a : _) (r r' : _) (s s' : _) → stepped-back.Post κs a r s → stepped-back.Post κs a r' s' → AllBytes a.0.now → r ≡ r'
  stepped_back_determined a r r' s s' p q B = stepped_one B _ step_back p q

  pub started_determined : (a : _) (r r' : _) (s s' : _) → started.Post κs a r s → started.Post κs a r' s' → AllBytes a.0.now → r ≡ r'
  started_determined a r r' s s' p q B = begin_one B _ _ p q

  pub check_determined : (a : _) (r r' : _) (s s' : _) → check.Post κs a r s → check.Post κs a r' s' → AllBytes a.0.now → r ≡ r'
  check_determined a r r' s s' p q B = check_one B p q

module _ (κs : Lfts 2) where
  pub opened_determined : (a : _) (r r' : _) (s s' : _) → opened.Post κs a r s → opened.Post κs a r' s' → AllBytes a.0.now → r ≡ r'
  opened_determined a r r' s s' p q B = open_one B _ _ p q

  pub saving_determined : (a : _) (r r' : _) (s s' : _) → saving.Post κs a r s → saving.Post κs a r' s' → AllBytes a.0.now → (r ≡ r') × (s.1.1.0.now ≡ s'.1.1.0.now)
  saving_determined a r r' s s' p q B = saving_one B _ _ p q

-- ---- over a session that is lent: the answers a, a' and the sessions z, z' afterwards
apart : {a a' : Answer} {z z' : Session} → made a z ≡ made a' z' → (a ≡ a') × (z ≡ z')
apart e = (ap (λ (m : Outcome). m.answer) e, ap (λ (m : Outcome). m.session) e)

module _ {f : List ℕ} (B : AllBytes f) (s : Session) (a a' : Answer) (z z' : Session) where
  -- `ladrukhi_step` (step), `ladrukhi_back` (step_back)
  pub lent_step_determined : (move : Tree → Place → Store → Arrival (Place × Store)) → SteppedSays move f s (made a z) → SteppedSays move f s (made a' z') → (a ≡ a') × (z ≡ z')
  lent_step_determined move p q = apart (stepped_one B s move p q)

  -- `ladrukhi_run` (run), `ladrukhi_run_back` (run_back)
  pub lent_run_determined : (by : Tree → ℕ → Place → Store → Ran) (n : ℕ) → RanSays by f s n (made a z) → RanSays by f s n (made a' z') → (a ≡ a') × (z ≡ z')
  lent_run_determined by n p q = apart (ran_one B s by n p q)

  -- `ladrukhi_start`
  pub lent_start_determined : (d : ℕ) → BeginSays f s d (made a z) → BeginSays f s d (made a' z') → (a ≡ a') × (z ≡ z')
  lent_start_determined d p q = apart (begin_one B s d p q)

  -- `ladrukhi_open`
  pub lent_open_determined : (bytes : List ℕ) → OpenSays f bytes s (made a z) → OpenSays f bytes s (made a' z') → (a ≡ a') × (z ≡ z')
  lent_open_determined bytes p q = apart (open_one B s bytes p q)

-- `ladrukhi_save`
pub lent_save_determined : {f : List ℕ} → AllBytes f → (s : Session) (buf : List ℕ) {a a' : Answer} {x x' : List ℕ} → SavingSays f s buf a x → SavingSays f s buf a' x' → (a ≡ a') × (x ≡ x')
lent_save_determined B s buf p q = saving_one B s buf p q
