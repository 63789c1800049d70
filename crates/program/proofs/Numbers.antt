-- The numbers of the reasons: none is 0, and no two reasons have one. Assumes nothing.
use Rattle.std.proofs.Common.{ℕ, ◌<◌, ◌≡◌, refl, sym, ap, ◌∙◌, cond, eqb, arith}
use Rattle.refusals.specs.Numbers.{number_of}
use Rattle.refusals.specs.declared.Reason.{Reason}
use Rattle.refusals.specs.declared.Reason.TheVariants.{TooLong, Cut, UnknownKind, Malformed, Oversize, Misplaced, NotThere, OwnName, WrongSize, Unfit, NoSession, NoRoom, AtEnd, WrongValue, ZeroDivisor, BadIndex, TooDeep}

pub numbered : (r : Reason) → 0 < number_of r
numbered TooLong = omega arith
numbered _ = omega arith

reason_of : ℕ → Reason
reason_of n =
    cond (eqb n 1) TooLong
    (cond (eqb n 2) Cut
    (cond (eqb n 3) UnknownKind
    (cond (eqb n 4) Malformed
    (cond (eqb n 5) Oversize
    (cond (eqb n 6) Misplaced
    (cond (eqb n 7) NotThere
    (cond (eqb n 8) OwnName
    (cond (eqb n 20) WrongSize
    (cond (eqb n 21) Unfit
    (cond (eqb n 22) NoSession
    (cond (eqb n 23) NoRoom
    (cond (eqb n 30) AtEnd
    (cond (eqb n 31) WrongValue
    (cond (eqb n 32) ZeroDivisor
    (cond (eqb n 33) BadIndex TooDeep)))))))))))))))

back : (r : Reason) → reason_of (number_of r) ≡ r
unfolding reason_of
back TooLong = refl
back _ = refl

pub same_number : (r s : Reason) → number_of r ≡ number_of s → r ≡ s
same_number r s e = sym (back r) ∙ (ap reason_of e ∙ back s)
