use Rattle.std.proofs.Common.{◌≡◌, Result, Ok, Err, ap}
use Rattle.std.specs.Prelude.{IfErr, IsErrAnd}
use Rattle.io_core.specs.declared.files.FetchFault.TheVariants as fetch
use Rattle.include_flat.proofs.Opening.{fetch_refused}
use Rattle.include_flat.proofs.reading.fetched_items.Goals as goal

-- what follows of the error of a result that is one
error_is : {A E : Type 0} (r : Result A E) (P Q : E → Type 0) → ((e : E) → P e → Q e) → IsErrAnd r P → IfErr r Q
error_is (Ok a) P Q f h = tt
error_is (Err e) P Q f h = f e h

pub returns-in_err-bytes-clause-refused : goal.returns-in_err-bytes-clause-refused
returns-in_err-bytes-clause-refused g c =
    let failing = c.in_err-bytes in
    let fault = failing.field-0.0 in
    error_is c.from_residual.result _ _
    (λ why is. fetch_refused (g.F.Files.known c.args.files.now) (g.F.Files.known c.fetch_whole.new.files) c.args.name.now c.args.walked.now
    fault why is (λ e. failing.ensures.failed (ap Err e)) (λ e. failing.ensures.too_long (ap Err e))
    (λ other. failing.ensures.stays (λ e. let same : fault ≡ fetch.Failed = cc in other same)))
    c.from_residual.ensures.1
