use Rattle.std.proofs.Common.{◌∙◌, ◌∷◌, [], ap, inl, inr, refl, string_bytes}
use Rattle.std.specs.Str.{chars}
use Rattle.std.proofs.lemmas.Bool.Decides.{eqb_tells}
use Rattle.std.proofs.lemmas.Str.{chars-nil, IsUtf8-string_bytes}
use Rattle.glslpp_parts.proofs.CharactersLemmas.{chars_same, chars_pushed}
use Rattle.glslpp_parts.proofs.dependencies.count.Goals as goal

pub returns-then-c-eq92 : goal.returns-then-c-eq92
returns-then-c-eq92 c = rw c.if-c-eq92.true (chars_pushed c.push_str.result (string_bytes c.args.backslashes.now) _ (92 ∷ []) _ (IsUtf8-string_bytes c.args.backslashes.now)
    c.push_str.ensures.bytes (chars_same (92 ∷ []) refl))

pub returns : goal.returns
returns c = elim (eqb_tells c.args.c 92) [
  | inl h ↦ absurd (c.if-c-eq92.false h.1)
  | inr h ↦ rw h.0 (ap chars c.clear.ensures.bytes ∙ chars-nil)
]
