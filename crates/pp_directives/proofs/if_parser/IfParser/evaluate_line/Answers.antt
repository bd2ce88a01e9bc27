use Rattle.std.proofs.Common.{rules, ◌∙◌, ap, sym, refl, Ok, w64, FitsSigned}
use Rattle.std.proofs.lemmas.Int.{to_z-of_z}
use Rattle.std.specs.Option.{option_copied}
use Rattle.pp_model.proofs.values.LineExpressionLemmas.{alone_then}
use Rattle.pp_directives.proofs.if_parser.IfParser.evaluate_line.Goals as goal
use Rattle.pp_directives.proofs.if_parser.IfParser.evaluate_line.Goals.{in-Some+in_ok-unwanted_word-in-Some, in-None}

pub returns : goal.returns
returns c =
    let fits : FitsSigned w64 c.in_ok-value.value = search rules in
    let takes = c.in_ok-value.ensures.takes in
    let alone = alone_then c.args.self.now.directive c.args.self.now.words c.evaluate_expression.new.self.words (Ok c.in_ok-value.value) takes.takes
    (λ value. value) c.in_ok-value.value refl in
    elim c.match-peek.branch [
      | in-Some+in_ok-unwanted_word-in-Some w ↦
          rw (w.result-is, w.in_ok-unwanted_word-in-Some.ensures) (rw (sym c.peek.ensures ∙ ap option_copied w.in-Some.is) at alone)
      | in-None w ↦
          rw (w.result-is, to_z-of_z w64 c.in_ok-value.value fits) (rw (sym c.peek.ensures ∙ ap option_copied w.in-None.is) at alone)
    ]
