use Rattle.std.proofs.Common.{◌≡◌, true, false, refl}
use Rattle.std.specs.Prelude.{◌&&◌}
use Rattle.pp_model.specs.Names.{is_same_name, defined_name}
use Rattle.pp_macros.proofs.defined_names.ReaderNamesLemmas.{reserved_none, others_found}
use Rattle.pp_macros.proofs.list_lexer.ListLexerMeLexer.get_define.Goals.{else-self-via-then-self+else-is_defined_name, else-self-via-else-self}
use Rattle.pp_macros.proofs.list_lexer.ListLexerMeLexer.get_define.Goals as goal

pub returns-then-is_defined_name-clause-opened : goal.returns-then-is_defined_name-clause-opened
returns-then-is_defined_name-clause-opened c = λ name at.
    let numbered = rw (← c.self.view_is) at at in
    let is : is_same_name c.in_ok-found.found.now.value.name defined_name ≡ true = cc in
    let e : (c.self.inside.is_line && is_same_name c.in_ok-found.found.now.value.name defined_name) ≡ true = rw (c.if-self.true, is) refl in
    rw (← c.self.view_is) (reserved_none c.self.inside.is_line _ name _ _ (c.in_ok-found.ensures.opened name numbered) e)

pub returns-clause-opened : goal.returns-clause-opened
returns-clause-opened c = λ name at.
    let numbered = rw (← c.self.view_is) at at in
    let e : (c.self.inside.is_line && is_same_name c.in_ok-found.found.now.value.name defined_name) ≡ false = elim c.else-self.branch [
      | else-self-via-then-self+else-is_defined_name w ↦ let is : is_same_name c.in_ok-found.found.now.value.name defined_name ≡ false = cc in
          rw (w.if-self.true, is) refl
      | else-self-via-else-self w ↦ rw w.if-self.false refl
    ] in
    rw (← c.self.view_is) (others_found c.self.inside.is_line _ name _ _ (c.in_ok-found.ensures.opened name numbered) e)
