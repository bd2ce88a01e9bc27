use Rattle.std.proofs.Common.{◌∷◌, false, refl}
use Rattle.glslpp_parts.specs.inner.Cutting.{joined}
use Rattle.glslpp_parts.proofs.WordFilesLemmas.{pushes, after_backslash, at_end_of_quotation, in_quotation}
use Rattle.glslpp_parts.proofs.word_file.Cutter.take.Goals as goal

pub returns-then-self : goal.returns-then-self
returns-then-self c =
    let s = c.args.self.now in
    pushes c.push.result (record s { is_escaped = false }) c.push.new.self c.args.character (λ rest. joined s (c.args.character ∷ rest))
    c.push.ensures.same refl c.push.ensures.word (λ rest. after_backslash s c.args.character rest c.if-self.true)

pub returns-in-Some : goal.returns-in-Some
returns-in-Some c =
    λ rest. at_end_of_quotation c.args.self.now c.args.character rest c.if-self.false c.if-character-eq92.false c.in-Some.mark c.in-Some.is c.if-character-mark.true

pub returns-in-Some-2 : goal.returns-in-Some-2
returns-in-Some-2 c =
    let s = c.args.self.now in
    pushes c.push-in-Some-2.result s c.push-in-Some-2.new.self c.args.character (λ rest. joined s (c.args.character ∷ rest))
    c.push-in-Some-2.ensures.same c.if-self.false c.push-in-Some-2.ensures.word
    (λ rest. in_quotation s c.args.character rest c.if-self.false c.if-character-eq92.false c.in-Some.mark c.in-Some.is c.if-character-mark.false)
