use Rattle.std.proofs.Common.{◌≡◌, ◌⊎◌, [], Ok, Err, refl, true}
use Rattle.pp_lexer.specs.declared.token.Token.{Token}
use Rattle.pp_macros.specs.Item.{PlacedStep}
use Rattle.pp_macros.specs.declared.step.PlacedExit.TheVariants.{Continue, Error, Finished}
use Rattle.pp_macros.specs.inner.Reader.{reads}
use Rattle.pp_directives.proofs.TextEndLemmas.{leaves_text}
use Rattle.pp_directives.proofs.directives.DirectiveProcessor.step.Goals as goal

pub returns-in-Err-Finished-clause-reads : goal.returns-in-Err-Finished-clause-reads
returns-in-Err-Finished-clause-reads c =
    let e = rw c.in-Err-Finished.field-0-is at c.in-Err-Finished.ensures in
    leaves_text c.args.self.now c.step_in_text.new.self c.leave.new.self c.leave.result e.reads e.errors c.leave.ensures

pub returns-in-Ok-clause-reads : goal.returns-in-Ok-clause-reads
returns-in-Ok-clause-reads c =
    let e = c.in-Ok.ensures in
    let on : ◌≡◌ {A = PlacedStep Token} (Ok c.in-Ok.token) (Err Finished) → (c.args.self.now.spent ≡ true) ⊎ (c.args.self.now.around ≡ []) = λ end. cc in
    reads (Ok c.in-Ok.token) e.reads e.errors on refl

pub returns-in-Err-Continue-clause-reads : goal.returns-in-Err-Continue-clause-reads
returns-in-Err-Continue-clause-reads c =
    let e = rw c.in-Err-Continue.field-0-is at c.in-Err-Continue.ensures in
    let on : ◌≡◌ {A = PlacedStep Token} (Err Continue) (Err Finished) → (c.args.self.now.spent ≡ true) ⊎ (c.args.self.now.around ≡ []) = λ end. cc in
    reads (Err Continue) e.reads e.errors on refl

pub returns-in-Err-Error-clause-reads : goal.returns-in-Err-Error-clause-reads
returns-in-Err-Error-clause-reads c =
    let e = rw c.in-Err-Error.field-0-is at c.in-Err-Error.ensures in
    let fault = c.in-Err-Error.fault in
    let on : ◌≡◌ {A = PlacedStep Token} (Err (Error fault)) (Err Finished) → (c.args.self.now.spent ≡ true) ⊎ (c.args.self.now.around ≡ []) = λ end. cc in
    reads (Err (Error fault)) e.reads e.errors on refl
