-- What was read before is the same for a source and for the reader that it stands for.
use Rattle.std.proofs.Common.{◌≡◌, refl}
use Rattle.pp_model.specs.SourceReader.{SourceReader, earlier_of}
use Rattle.pp_macros.specs.inner.Source.{Source, had_text, had_directive}
use Rattle.pp_rs.specs.inner.Stands.{StandsReading}

pub same_earlier : {s : Source} {r : SourceReader} → StandsReading s r
    → record { text = had_text s; directive = had_directive s } ≡ earlier_of r
same_earlier {s} {r} stands = rw (stands.earlier, stands.here.remembers_text, stands.here.remembers_directive) refl
