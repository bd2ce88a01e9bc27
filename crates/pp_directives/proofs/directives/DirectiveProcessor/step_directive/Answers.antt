use Rattle.std.proofs.Common.{◌∙◌, ap, sym, Err}
use Rattle.pp_macros.specs.Halting.{exit_of, placed_halt_of}
use Rattle.pp_macros.specs.declared.halt.PlacedHalt.{PlacedHalt}
use Rattle.pp_directives.proofs.PassedErrorsLemmas.{none_met}
use Rattle.pp_directives.proofs.SkippingLemmas.{refused_directive, rest_passed, directive_met, directive_unspent}
use Rattle.pp_directives.proofs.directives.DirectiveProcessor.step_directive.Goals as goal
use Rattle.pp_model.specs.Places.{unplaced}
use Rattle.pp_macros.specs.inner.Source.{unreported_of}

pub returns-in-Err-skip_faulty_line-clause-reads : goal.returns-in-Err-skip_faulty_line-clause-reads
returns-in-Err-skip_faulty_line-clause-reads c =
    refused_directive c.args.hash c.args.self.now _ c.in-Err-skip_faulty_line.refused _ (c.in-Err-skip_faulty_line.ensures {u = tt}).only
    (ap Err (c.from-in-Err-skip_faulty_line.ensures ∙ ap exit_of (c.in_text.ensures ∙ ap (λ text. placed_halt_of text c.in-Err-skip_faulty_line.refused) c.text-text.ensures)))

pub returns-in_default-clause-reads : goal.returns-in_default-clause-reads
returns-in_default-clause-reads c =
    let found = sym c.in-Fault.is ∙ rw c.text-text.ensures at c.placed_at.ensures in
    record {
      given = Err c.in-Err.halt;
      mid = c.read_directive.new.self;
      gives = rw c.in-Err.is at c.read_directive.ensures;
      skips = rw (← found) (c.in_default.ensures {u = tt}).skips;
      is = ap (λ (h : PlacedHalt). Err (exit_of h)) found;
    }

pub returns-in_default-clause-errors : goal.returns-in_default-clause-errors
returns-in_default-clause-errors c = λ reported.
    let found = sym c.in-Fault.is ∙ rw c.text-text.ensures at c.placed_at.ensures in
    let met = directive_met c.args.hash c.args.self.now c.read_directive.new.self c.in-Err.halt c.in-Fault.fault found (rw c.in-Err.is at c.read_directive.ensures) in
    rest_passed (unplaced c.in-Fault.fault) c.args.self.now c.read_directive.new.self c.skip_faulty_line.new.self met.0 met.1 (c.in_default.ensures {u = tt}).skips

pub returns-in-Ok-Include-clause-errors : goal.returns-in-Ok-Include-clause-errors
returns-in-Ok-Include-clause-errors c = λ reported.
    let gives = rw c.in-Ok-Include.is at c.read_directive.ensures in
    none_met c.args.self.now.rules.passes_dead_errors _ (unreported_of c.args.self.now) (unreported_of c.read_directive.new.self) gives.errors

pub skip_faulty_line-requires : goal.skip_faulty_line-requires
skip_faulty_line-requires c =
    let found = sym c.in-Fault.is ∙ rw c.text-text.ensures at c.placed_at.ensures in
    directive_unspent c.args.hash c.args.self.now c.read_directive.new.self c.in-Err.halt c.in-Fault.fault found (rw c.in-Err.is at c.read_directive.ensures)
