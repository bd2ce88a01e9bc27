use Rattle.std.proofs.Common.{◌∙◌, ◌∷◌, sym}
use Rattle.glslpp_parts.specs.inner.Cutting.{joined}
use Rattle.glslpp_parts.proofs.WordFilesLemmas.{pushes, begin_joins, ends, at_quotation, at_white_space, in_word}
use Rattle.glslpp_parts.proofs.word_file.Cutter.take_unquoted.Goals as goal

pub returns-then-is_quotation_mark : goal.returns-then-is_quotation_mark
returns-then-is_quotation_mark c =
    let s = c.args.self.now in
    let c1 = c.args.character in
    λ rest. begin_joins s c.begin_word.new.self c1 rest c.begin_word.ensures.same c.requires.escaped c.begin_word.ensures.word
    ∙ sym (at_quotation s c1 rest c.requires.escaped c.requires.other c.requires.quote (sym c.is_quotation_mark.ensures ∙ c.if-is_quotation_mark.true))

pub returns-then-is_white_space : goal.returns-then-is_white_space
returns-then-is_white_space c =
    let s = c.args.self.now in
    ends c.end_word.result s c.end_word.new.self (λ rest. joined s (c.args.character ∷ rest))
    c.end_word.ensures.same c.end_word.ensures.words c.requires.escaped c.requires.quote
    (λ rest. at_white_space s c.args.character rest c.requires.escaped c.requires.other c.requires.quote
    (sym c.is_quotation_mark.ensures ∙ c.if-is_quotation_mark.false) (sym c.is_white_space.ensures ∙ c.if-is_white_space.true))

pub returns : goal.returns
returns c =
    let s = c.args.self.now in
    pushes c.push.result s c.push.new.self c.args.character (λ rest. joined s (c.args.character ∷ rest)) c.push.ensures.same c.requires.escaped c.push.ensures.word
    (λ rest. in_word s c.args.character rest c.requires.escaped c.requires.other c.requires.quote
    (sym c.is_quotation_mark.ensures ∙ c.if-is_quotation_mark.false) (sym c.is_white_space.ensures ∙ c.if-is_white_space.false))
