use Rattle.glslpp_parts.proofs.VersionLemmas.{chars-es, chars-core, chars-compatibility}
use Rattle.glslpp_parts.proofs.version.named_profile.Goals as goal

pub is_word-requires : goal.is_word-requires
is_word-requires c = chars-es

pub is_word-requires-else-is_word : goal.is_word-requires-else-is_word
is_word-requires-else-is_word c = chars-core

pub is_word-requires-else-is_word-2 : goal.is_word-requires-else-is_word-2
is_word-requires-else-is_word-2 c = chars-compatibility
