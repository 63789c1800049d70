-- For each public function: any two outcomes that its contract permits are equal. `Post κs a r s` is the contract
-- as the check reads it: of the arguments a, the answer r and what each argument holds afterwards, s.
-- Assumes nothing.
use mathlib.Core.Path.{◌≡◌, sym, ◌∙◌}
use contract.Lifetimes.{Lfts}
use Rattle.codes.specs.Codes.{AllBytes}
use Rattle.expr.specs.Answers.{EndSays}
use Rattle.expr.proofs.Format.{says}
use Rattle.expr.proofs.expression_end.Reads as expression-end
use Rattle.expr.proofs.mentions.Reads as mentions
use Rattle.expr.proofs.names_known.Reads as names-known

module _ (κs : Lfts 1) where
  pub expression_end_determined : (a : _) (r r' : _) (s s' : _) → expression-end.Post κs a r s → expression-end.Post κs a r' s' → r ≡ r'
  expression_end_determined a r r' s s' p q = p ∙ sym q

  -- and the one that it permits is the document's
  pub expression_end_says : (a : _) (r : _) (s : _) → expression-end.Post κs a r s → AllBytes a.0.now → EndSays a.0.now a.1.0 16 r
  expression_end_says a r s p B = rw p (says a.0.now B a.1.0 16)

  pub mentions_determined : (a : _) (r r' : _) (s s' : _) → mentions.Post κs a r s → mentions.Post κs a r' s' → r ≡ r'
  mentions_determined a r r' s s' p q = p ∙ sym q

  pub names_known_determined : (a : _) (r r' : _) (s s' : _) → names-known.Post κs a r s → names-known.Post κs a r' s' → r ≡ r'
  names_known_determined a r r' s s' p q = p ∙ sym q
