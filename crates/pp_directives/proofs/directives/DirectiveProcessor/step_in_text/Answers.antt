use Rattle.std.proofs.Common.{reverse, ◌≡◌, true, false, List, ℕ, sym, ◌∙◌, refl}
use Rattle.pp_lexer.specs.PlainItems.{value_of, token_of}
use Rattle.pp_lexer.specs.declared.lexer.item.TokenValue.TheVariants.{Hash}
use Rattle.pp_lexer.specs.declared.lexer.plain.Form.{Form}
use Rattle.pp_lexer.specs.declared.lexer.plain.Form.TheVariants.{Hash as HashForm}
use Rattle.pp_directives.proofs.PlainWordLemmas.{passed_before}
use Rattle.pp_directives.proofs.SourceStepLemmas.{step_directive}
use Rattle.pp_directives.proofs.directives.DirectiveProcessor.step_in_text.Goals as goal
use Rattle.pp_directives.proofs.directives.DirectiveProcessor.step_in_text.Goals.{in-Hash, in_default-matches}

hash_value : (form : Form) (w : List ℕ) → form ≡ HashForm → value_of form w ≡ Hash
hash_value form w e = rw e refl

pub returns-then-matches-clause-reads : goal.returns-then-matches-clause-reads
returns-then-matches-clause-reads c =
    let p = c.self.inside in
    let word = c.in-Some.word in
    let h = passed_before p.lexer c.peek_word.new.self c.pass_word.new.self word c.peek_word.ensures.same c.pass_word.ensures in
    let is_hash : word.form ≡ HashForm = elim c.match-matches.branch [
      | in-Hash w ↦ w.in-Hash.is
      | in_default-matches w ↦ let bad : true ≡ false = sym c.if-matches.true ∙ w.matches-is in cc
    ] in
    rw (← c.self.view_is)
    (step_directive p.rules p.text (record { text = p.earlier_text; directive = p.earlier_directive }) (reverse p.around.items) p.definitions p.blocks p.line_offset p.has_text p.has_directive p.dead_for_good p.contents p.lexer c.pass_word.new.self (token_of word)
    (sym c.is_spent.ensures ∙ c.if-is_spent.false) h.is h.takes c.step_directive.new.self
    (hash_value word.form word.spelling.now is_hash) c.if-not-word.false h.left c.step_directive.result c.step_directive.ensures.reads)
