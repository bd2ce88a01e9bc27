use Rattle.std.proofs.Common.{sym, ap, ◌∙◌}
use Rattle.std.specs.Prelude.{Err}
use Rattle.std.proofs.lemmas.Result.{err_from_is_err_and}
use Rattle.pp_directives.proofs.LineOperandLemmas.{closed_broken, closed_answer, closed_fault}
use Rattle.pp_directives.specs.inner.ReadingWords.{rest_of}
use Rattle.pp_directives.proofs.line_words.WordReader.closed_operand.Goals as goal

pub returns-in_err-item : goal.returns-in_err-item
returns-in_err-item c =
    let e = err_from_is_err_and c.from_residual.result c.from_residual.ensures.1 in
    closed_broken c.args.self.now.kind c.args.self.now.directive c.args.self.now.levels c.args.self.now.scope.numbering c.args.self.now.scope.definitions.now
    c.args.line.now.expander.here (rest_of c.args.line.now) _ _ c.args.name.now c.in_err-item.field-0.0 _ (e.1 ∙ ap Err e.2) c.in_err-item.ensures.reads

pub returns-then-is_close_paren : goal.returns-then-is_close_paren
returns-then-is_close_paren c =
    closed_answer c.args.self.now.kind c.args.self.now.directive c.args.self.now.levels c.args.self.now.scope.numbering c.args.self.now.scope.definitions.now
    c.args.line.now.expander.here (rest_of c.args.line.now) _ _ c.in_ok-item.item c.in_ok-item.ensures.reads c.args.name.now _
    (sym c.is_close_paren.ensures ∙ c.if-is_close_paren.true) c.is_defined.ensures

pub returns-else-is_close_paren : goal.returns-else-is_close_paren
returns-else-is_close_paren c =
    closed_fault c.args.self.now.kind c.args.self.now.directive c.args.self.now.levels c.args.self.now.scope.numbering c.args.self.now.scope.definitions.now
    c.args.line.now.expander.here (rest_of c.args.line.now) _ _ c.in_ok-item.item c.in_ok-item.ensures.reads c.args.name.now _
    (sym c.is_close_paren.ensures ∙ c.if-is_close_paren.false) (rw c.unwanted_word-fault.ensures at c.fault_in.ensures)
