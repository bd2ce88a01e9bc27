use Rattle.glslpp_parts.proofs.VersionLemmas.{chars-version}
use Rattle.glslpp_parts.proofs.version.read_after_hash.Goals as goal

pub is_next_word-is_version-requires : goal.is_next_word-is_version-requires
is_next_word-is_version-requires c = chars-version
