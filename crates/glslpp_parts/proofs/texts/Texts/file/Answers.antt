use Rattle.std.proofs.Common.{◌∙◌, true, false, sym, ap}
use Rattle.std.specs.Prelude.{Option, is_some, option_map, unwrap_or}
use Rattle.glslpp_parts.specs.declared.texts.File.{File}
use Rattle.glslpp_parts.specs.declared.texts.Inclusion.{Inclusion}
use Rattle.glslpp_parts.specs.Texts.{Added, has_marks}
use Rattle.glslpp_parts.specs.inner.Added.{added_of}
use Rattle.glslpp_parts.proofs.TextsLemmas.{at_added, past_added}
use Rattle.glslpp_parts.proofs.texts.Texts.file.Goals as goal

pub returns-in_err-file-clause-is_file : goal.returns-in_err-file-clause-is_file
returns-in_err-file-clause-is_file c =
    ap is_some c.from_residual.ensures
    ∙ sym (past_added (λ (added : Added). added.is_file) c.args.self.now.added c.args.number true false
    c.if-number-eq-SOURCE_TEXT.false (sym (c.in_err-file.ensures {u = tt})))

pub returns-in-Some-clause-is_file : goal.returns-in-Some-clause-is_file
returns-in-Some-clause-is_file c =
    sym (at_added (λ (added : Added). added.is_file) c.args.self.now.added c.args.number (added_of c.in_ok-file.field-0) true false
    (sym (c.in_ok-file.ensures {u = tt})) ∙ ap is_some c.in-Some.is)

pub returns-in-Some-clause-is_marked : goal.returns-in-Some-clause-is_marked
returns-in-Some-clause-is_marked c =
    sym (at_added (λ (added : Added). added.is_marked) c.args.self.now.added c.args.number (added_of c.in_ok-file.field-0)
    c.args.self.now.is_marked false (sym (c.in_ok-file.ensures {u = tt}))
    ∙ ap (λ (o : Option (File × Option Inclusion)). unwrap_or (option_map (λ (file : File × Option Inclusion). has_marks file.0) o) false)
    c.in-Some.is)

pub returns-in-None-clause-is_file : goal.returns-in-None-clause-is_file
returns-in-None-clause-is_file c =
    sym (at_added (λ (added : Added). added.is_file) c.args.self.now.added c.args.number (added_of c.in_ok-file.field-0) true false
    (sym (c.in_ok-file.ensures {u = tt})) ∙ ap is_some c.in-None.is)
