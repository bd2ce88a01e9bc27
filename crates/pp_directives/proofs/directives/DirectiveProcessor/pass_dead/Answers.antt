use Rattle.std.proofs.Common.{◌≡◌, reverse, false, suc, rules, ap, sym, ◌∙◌}
use Rattle.pp_macros.specs.inner.OpenBlocks.{is_live_among}
use Rattle.pp_macros.specs.inner.Source.{Source}
use Rattle.pp_directives.proofs.PassedWordsLemmas.{others_pause, pauses_once, newline_pauses}
use Rattle.pp_directives.proofs.directives.DirectiveProcessor.pass_dead.Goals as goal

pub returns-then-pass_words : goal.returns-then-pass_words
returns-then-pass_words c =
    let p = c.self.inside in
    let passed = rw c.if-pass_words.true at c.pass_words.ensures in
    let is_dead : is_live_among p.dead_for_good p.blocks ≡ false = ap (λ (s : Source). is_live_among s.dead_for_good s.blocks) c.self.view_is
    ∙ sym c.is_live.ensures ∙ c.if-is_live.false in
    rw (← c.self.view_is) (
      passed.0,
      others_pause p.rules p.text (record { text = p.earlier_text; directive = p.earlier_directive }) (reverse p.around.items) p.definitions p.blocks
          p.line_offset p.has_text p.has_directive p.dead_for_good p.contents is_dead (suc passed.0) p.lexer c.pass_words.new.self
          (sym c.is_spent.ensures ∙ c.if-is_spent.false) passed.1,
    )

pub returns-in_default : goal.returns-in_default
returns-in_default c = newline_pauses _ _ _ (search rules)

pub returns : goal.returns
returns c = pauses_once _ _ (search rules)
