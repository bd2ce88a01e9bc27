use Rattle.std.proofs.Common.{◌≡◌, ◌∙◌, refl, sym, subst, false}
use Rattle.pp_model.specs.Names.{is_identifier, line_name}
use Rattle.pp_model.specs.declared.read.Read.{Read}
use Rattle.pp_macros.specs.inner.Reader.{IsReadOnto, none_read, of_list}
use Rattle.pp_macros.proofs.taking.IdleListLemmas.{lists_token}
use Rattle.pp_macros.proofs.taking.RunLemmas.{flat_more}
use Rattle.pp_macros.proofs.list_lexer.ListLexerMeLexer.push_flat.Goals as goal

pub tokens-init : goal.tokens-init
tokens-init c = none_read _ _ refl refl

pub tokens-preserved : goal.tokens-preserved
tokens-preserved c =
    let same : c.in-Some.read.now ≡ c.take.result = cc (c.in-Some.ensures, c.take.ensures.tokens) in
    let onto : IsReadOnto (of_list c.tokens.self) c.tokens.tokens.items (of_list c.take.new.self) c.push.new.self.items = record {
      read = c.take.result;
      reads = lists_token c.tokens.self c.take.new.self c.take.result c.take.ensures.tokens c.take.ensures.others;
      apart = subst (λ (read : Read). is_identifier line_name read.token.value ≡ false) same (sym c.is_line_name.ensures ∙ c.if-is_line_name.false);
      holds = c.take.ensures.holds;
      is = c.in_ok-push.ensures.items;
    } in
    flat_more _ _ _ _ _ _ _ c.tokens.invariant onto (c.ends_at_parenthesis.ensures _ onto.read (c.deref.ensures.value ∙ onto.is)) c.if-ends_at_parenthesis.false
