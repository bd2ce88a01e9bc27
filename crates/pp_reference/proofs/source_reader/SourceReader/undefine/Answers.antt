use Rattle.std.proofs.Common.{◌∙◌, ap, refl}
use Rattle.std.specs.Prelude.{true, Err}
use Rattle.pp_model.specs.declared.directive.Directive.TheVariants as d
use Rattle.pp_model.specs.declared.sight.Sight.TheVariants as sight
use Rattle.pp_reference.specs.contracts.source_reader.SourceReader.{the_view}
use Rattle.pp_reference.proofs.LeftLemmas.{name_undefined, nothing_undefined}
use Rattle.pp_reference.proofs.source_reader.SourceReader.undefine.Goals as goal

pub returns-in_ok-change-in-Ok : goal.returns-in_ok-change-in-Ok
returns-in_ok-change-in-Ok c =
    let after = rw (← c.self.view_is) at c.after_word.ensures in
    rw (← c.self.view_is) (name_undefined (the_view c.self.inside) true (sight.Directive d.Undef c.args.word) c.args.word c.after_word.result.now c.changed_name.result
    refl refl after c.changed_name.ensures c.in-Ok.first c.change.new.self c.in-Ok.is (c.in_ok-change-in-Ok.ensures {u = tt}).ok)

pub returns-in-Err-Fault : goal.returns-in-Err-Fault
returns-in-Err-Fault c =
    let after = rw (← c.self.view_is) at c.after_word.ensures in
    rw (← c.self.view_is) (nothing_undefined (the_view c.self.inside) true (sight.Directive d.Undef c.args.word) c.args.word c.after_word.result.now c.changed_name.result
    refl refl after c.changed_name.ensures c.in-Err-Fault.fault (c.in-Err-Fault.is ∙ ap Err c.in-Err-Fault.field-0-is))
