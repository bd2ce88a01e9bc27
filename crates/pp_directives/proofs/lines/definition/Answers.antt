use Rattle.std.proofs.Common.{◌≡◌, ap, drop, ◌∙◌, sym, true, List, Option, option_map, Some, None, Ok, Err, rules}
use Rattle.std.proofs.lemmas.Result.{err_from_is_err_and}
use Rattle.pp_lexer.specs.Lexed.{Seen}
use Rattle.pp_lexer.specs.declared.lexer.item.Token.{Token as LexerToken}
use Rattle.pp_expression.specs.Answers.{◌>>=◌}
use Rattle.pp_model.specs.Lines.{line_length}
use Rattle.pp_macros.specs.inner.LineReading.{line_token, length_after, next_token}
use Rattle.pp_directives.specs.inner.DefineReading.{opens_list}
use Rattle.pp_directives.proofs.LineReadingLemmas.{line_place-next, takes_after}
use Rattle.pp_directives.proofs.PartsShownLemmas.{list_shown, body_shown, definition_body, definition_fails, definition_refused, definition_body_fails}
use Rattle.pp_macros.proofs.work.ParameterLemmas.{paren_place}
use Rattle.pp_directives.specs.inner.TokenLists.{token_of}
use Rattle.pp_directives.proofs.lines.definition.Goals as goal

list_place : (rest after : List Seen) (token : Option LexerToken) → next_token rest ≡ Ok token → opens_list token ≡ true → after ≡ drop 1 rest
    → drop (line_length rest) rest ≡ drop (line_length after) after
list_place rest after None next opens place = cc
list_place rest after (Some token) next opens place = paren_place rest after token next opens place

pub returns-then-opens_parameters : goal.returns-then-opens_parameters
returns-then-opens_parameters c =
    let n = c.in_ok-token.ensures in
    record {
      is = search rules;
      takes = takes_after c.function_after.result _ _ _ _ _ _ _ c.function_after.ensures.takes n.takes.further
          (list_place c.args.lexer.now.rest c.next_token.new.self.rest c.in_ok-token.token n.is
          (sym c.opens_parameters.ensures ∙ c.if-opens_parameters.true) n.takes.rest)
          (list_shown c.args.word c.args.lexer.now.rest c.next_token.new.self.rest c.in_ok-token.token n.is
          (sym c.opens_parameters.ensures ∙ c.if-opens_parameters.true) n.takes.rest);
      fault = c.function_after.ensures.fault;
      errors = search rules;
    }

pub returns : goal.returns
returns c =
    let n = c.in_ok-token.ensures in
    let first = option_map token_of c.in_ok-first.first in
    record {
      is = definition_body c.args.word c.in_ok-token.token first c.args.lexer.now.rest c.next_token.new.self.rest c.read_line.new.tokens.tokens n.is
          n.takes.rest (sym c.opens_parameters.ensures ∙ c.if-opens_parameters.false) c.in_ok-first.ensures.is c.in_ok-read_line.ensures.reads.reads.is
          ∙ ap Ok (sym c.in_ok-object_like.ensures);
      takes = takes_after (Ok c.in_ok-read_line.field-0) _ _ _ _ _ _ _ c.in_ok-read_line.ensures.reads.reads.takes n.takes.further
          (line_place-next c.args.lexer.now.rest first (ap (λ r. r >>= line_token) n.is ∙ c.in_ok-first.ensures.is)
          ∙ ap (λ r. drop (length_after first r) r) (sym n.takes.rest))
          (body_shown c.args.word c.args.lexer.now.rest c.next_token.new.self.rest c.in_ok-token.token first n.is
          (sym c.opens_parameters.ensures ∙ c.if-opens_parameters.false) c.in_ok-first.ensures.is n.takes.rest);
      fault = tt;
      errors = search rules;
    }

pub returns-in_err-token : goal.returns-in_err-token
returns-in_err-token c =
    let e = err_from_is_err_and c.from_residual.result c.from_residual.ensures.1 in
    let n = c.in_err-token.ensures in
    rw (e.1 ∙ ap Err e.2)
    (definition_fails (λ d. d) c.in_err-token.field-0.0 c.args.word c.args.lexer.now c.next_token.new.self n.is n.takes n.fault n.errors)

pub returns-in_err-first : goal.returns-in_err-first
returns-in_err-first c =
    let e = err_from_is_err_and c.from_residual-in_err-first.result c.from_residual-in_err-first.ensures.1 in
    let n = c.in_ok-token.ensures in
    rw (e.1 ∙ ap Err e.2)
    (definition_refused (λ d. d) c.in_err-first.field-0.0 c.args.word c.in_ok-token.token c.args.lexer.now c.next_token.new.self n.is n.takes n.errors
    (sym c.opens_parameters.ensures ∙ c.if-opens_parameters.false) c.in_err-first.ensures.is)

pub returns-in_err-read_line : goal.returns-in_err-read_line
returns-in_err-read_line c =
    let e = err_from_is_err_and c.from_residual-in_err-read_line.result c.from_residual-in_err-read_line.ensures.1 in
    let n = c.in_ok-token.ensures in
    rw (e.1 ∙ ap Err e.2)
    (definition_body_fails (λ d. d) (λ _. c.read_line.new.tokens.tokens) c.in_err-read_line.field-0.0 c.args.word c.in_ok-token.token
    (option_map token_of c.in_ok-first.first) c.args.lexer.now
    c.next_token.new.self c.read_line.new.lexer n.is n.takes n.errors (sym c.opens_parameters.ensures ∙ c.if-opens_parameters.false)
    c.in_ok-first.ensures.is c.in_err-read_line.ensures.reads.reads)
