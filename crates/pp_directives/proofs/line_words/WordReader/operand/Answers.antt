use Rattle.std.proofs.Common.{sym, ◌∙◌}
use Rattle.pp_directives.proofs.LineOperandLemmas.{operand_opened, operand_name, operand_fault}
use Rattle.pp_directives.specs.inner.ReadingWords.{rest_of}
use Rattle.pp_directives.proofs.line_words.WordReader.operand.Goals as goal

pub returns-then-is_open_paren : goal.returns-then-is_open_paren
returns-then-is_open_paren c =
    operand_opened c.args.self.now.kind c.args.self.now.directive c.args.self.now.levels c.args.self.now.scope.numbering c.args.self.now.scope.definitions.now
    c.args.line.now.expander.here (rest_of c.args.line.now) c.take.new.line.expander.here (rest_of c.take.new.line) c.in_ok-found.found c.in_ok-found.ensures
    c.operand_in_parentheses.result _ _ (sym c.is_open_paren.ensures ∙ c.if-is_open_paren.true) c.operand_in_parentheses.ensures

pub returns-in-Ok : goal.returns-in-Ok
returns-in-Ok c =
    operand_name c.args.self.now.kind c.args.self.now.directive c.args.self.now.levels c.args.self.now.scope.numbering c.args.self.now.scope.definitions.now
    c.args.line.now.expander.here (rest_of c.args.line.now) _ _ c.in_ok-found.found c.in_ok-found.ensures c.in-Ok.name _ c.in-Ok.ensures c.is_defined.ensures

pub returns-in-Err : goal.returns-in-Err
returns-in-Err c =
    operand_fault c.args.self.now.kind c.args.self.now.directive c.args.self.now.levels c.args.self.now.scope.numbering c.args.self.now.scope.definitions.now
    c.args.line.now.expander.here (rest_of c.args.line.now) _ _ c.in_ok-found.found c.in_ok-found.ensures c.in-Err.fault c.found_in.result
    (sym c.is_open_paren.ensures ∙ c.if-is_open_paren.false) c.in-Err.ensures c.found_in.ensures
