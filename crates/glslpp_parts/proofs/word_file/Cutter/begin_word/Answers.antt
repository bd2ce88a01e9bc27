use Rattle.std.proofs.Common.{◌≡◌, ◌∙◌, Option, Some, None, String, Global, [], refl, sym, ap, false, string_bytes}
use Rattle.std.specs.Prelude.{is_some, not, option_map, unwrap_or}
use Rattle.std.specs.Str.{chars}
use Rattle.std.proofs.lemmas.Str.{chars-nil}
use Rattle.glslpp_parts.proofs.word_file.Cutter.begin_word.Goals as goal

none_open : (o : Option (String Global)) → is_some o ≡ false → unwrap_or (option_map (λ word. chars (string_bytes word)) o) [] ≡ []
none_open None e = refl
none_open (Some word) e = cc

pub returns-then-is_none-clause-word : goal.returns-then-is_none-clause-word
returns-then-is_none-clause-word c =
    ap Some (ap chars c.new.ensures.bytes ∙ chars-nil ∙ sym (none_open c.args.self.now.word (c.is_none.ensures ∙ ap not c.if-is_none.true)))
