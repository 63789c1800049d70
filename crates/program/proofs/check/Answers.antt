-- `program::check` meets its contract: its answers are the cases of `CheckCases`, and those are what `Says` says.
use Rattle.std.proofs.Common.{◌≡◌, sym, ap, ◌∙◌, arith, rules, Ok, Err}
use Rattle.std.proofs.lemmas.Result.{err_from_is_err_and}
use Rattle.refusals.specs.declared.Reason.TheVariants.{Misplaced}
use Rattle.program.proofs.CheckSays.{says_of}
use Rattle.program.proofs.CheckCases.{too_long, faulty, misplaced, unknown, own, accepted, stuck_at, ordered_all}
use Rattle.program.proofs.check.Goals as goal

pub returns-then-file-gt-BYTES : goal.returns-then-file-gt-BYTES
returns-then-file-gt-BYTES c = says_of c.args.file.now (λ i. grind arith) (Err c.at.result) (ap Err c.at.ensures ∙ too_long c.args.file.now c.if-file-gt-BYTES.true)

pub returns-in_err-walked : goal.returns-in_err-walked
returns-in_err-walked c =
    let p = err_from_is_err_and c.from_residual.result c.from_residual.ensures.1 in
    rw (p.1, p.2) (says_of c.args.file.now (λ i. grind arith) (Err c.in_err-walked.field-0.0) (faulty c.args.file.now c.if-file-gt-BYTES.false _ (sym c.in_err-walked.ensures)))

pub returns-in_err-map_err : goal.returns-in_err-map_err
returns-in_err-map_err c =
    let f = c.args.file.now in
    let p = err_from_is_err_and c.from_residual-in_err-map_err.result c.from_residual-in_err-map_err.ensures.1 in
    let m = stuck_at c.order.result c.in_err-map_err.ensures.variant in
    let made = rw (m.1, c.in_err-map_err.was) at c.map_err.ensures.cases in
    let label : c.in_err-map_err.field-0.0 ≡ record { reason = Misplaced; label = m.0 } = search (rules, made) in
    let e = misplaced f c.if-file-gt-BYTES.false _ (sym c.in_ok-walked.ensures) m.0 (sym c.order.ensures ∙ m.1) in
    rw (p.1, p.2) (says_of f (λ i. grind arith) (Err c.in_err-map_err.field-0.0) (ap Err label ∙ e))

pub returns-in-Some : goal.returns-in-Some
returns-in-Some c =
    let f = c.args.file.now in
    let o = ordered_all c.order.result c.in_ok-map_err.ensures.variant in
    let h = sym c.first_unknown.ensures ∙ c.in-Some.is in
    let u = unknown f c.if-file-gt-BYTES.false _ (sym c.in_ok-walked.ensures) (sym c.order.ensures ∙ o) _ (rw (c.short-scalars.ensures.0, c.short-arrays.ensures.0) at h) in
    says_of f (λ i. grind arith) (Err c.at-in-Some.result) (ap Err c.at-in-Some.ensures ∙ u)

pub returns-in-Some-first_own : goal.returns-in-Some-first_own
returns-in-Some-first_own c =
    let f = c.args.file.now in
    let o = ordered_all c.order.result c.in_ok-map_err.ensures.variant in
    let h = sym c.first_unknown.ensures ∙ c.in_default.is in
    let n = sym c.first_own.ensures ∙ c.in-Some-first_own.is in
    let u = own f c.if-file-gt-BYTES.false _ (sym c.in_ok-walked.ensures) (sym c.order.ensures ∙ o) (rw (c.short-scalars.ensures.0, c.short-arrays.ensures.0) at h) _ n in
    says_of f (λ i. grind arith) (Err c.at-in-Some-first_own.result) (ap Err c.at-in-Some-first_own.ensures ∙ u)

pub returns : goal.returns
returns c =
    let f = c.args.file.now in
    let o = ordered_all c.order.result c.in_ok-map_err.ensures.variant in
    let h = sym c.first_unknown.ensures ∙ c.in_default.is in
    let n = sym c.first_own.ensures ∙ c.in_default-first_own.is in
    let u = accepted f c.if-file-gt-BYTES.false _ (sym c.in_ok-walked.ensures) (sym c.order.ensures ∙ o) (rw (c.short-scalars.ensures.0, c.short-arrays.ensures.0) at h) n in
    says_of f (λ i. grind arith) (Ok (record { records = c.in_ok-walked.walked.records; procedures = c.in_ok-walked.walked.procedures; cells = c.cells.result })) (rw c.cells.ensures u)
