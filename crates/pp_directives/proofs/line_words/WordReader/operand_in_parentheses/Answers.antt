use Rattle.pp_directives.proofs.LineOperandLemmas.{parenthesized_name, parenthesized_fault}
use Rattle.pp_directives.specs.inner.ReadingWords.{rest_of}
use Rattle.pp_directives.proofs.line_words.WordReader.operand_in_parentheses.Goals as goal

pub returns-in-Ok : goal.returns-in-Ok
returns-in-Ok c =
    parenthesized_name c.args.self.now.kind c.args.self.now.directive c.args.self.now.levels c.args.self.now.scope.numbering c.args.self.now.scope.definitions.now
    c.args.line.now.expander.here (rest_of c.args.line.now) c.take.new.line.expander.here (rest_of c.take.new.line) c.in_ok-found.found c.in_ok-found.ensures
    c.in-Ok.name c.closed_operand.result _ _ c.in-Ok.ensures c.closed_operand.ensures

pub returns-in-Err : goal.returns-in-Err
returns-in-Err c =
    parenthesized_fault c.args.self.now.kind c.args.self.now.directive c.args.self.now.levels c.args.self.now.scope.numbering c.args.self.now.scope.definitions.now
    c.args.line.now.expander.here (rest_of c.args.line.now) _ _ c.in_ok-found.found c.in_ok-found.ensures c.in-Err.fault c.found_in.result c.in-Err.ensures c.found_in.ensures
