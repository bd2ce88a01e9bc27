-- What a token becomes when it is taken, and which macro it opens, over frames and over their splice list.
use Rattle.std.proofs.Common.{◌≡◌, ◌∙◌, ℕ, List, ap, Option, Some, None, option_map}
use Rattle.std.specs.Prelude.{if◌then◌else◌, unwrap_or}
use Rattle.pp_model.specs.Places.{place_of}
use Rattle.pp_model.specs.declared.read.Read.{Read}
use Rattle.pp_model.specs.Names.{Name, is_identifier, line_name}
use Rattle.pp_model.specs.Definitions.{Definition}
use Rattle.pp_model.specs.SpliceList.{outermost_line}
use Rattle.pp_model.specs.Reading.{Opening}
use Rattle.pp_model.specs.Taking.{line_number, shown_token}
use Rattle.pp_model.specs.declared.read.Taken.TheVariants as given
use Rattle.pp_macros.specs.inner.Reader.{Reader, shown_line}
use Rattle.pp_macros.specs.inner.Frames.{Frame, flat, outermost_frame_line}
use Rattle.pp_macros.specs.inner.Turns.{taken_in}
use Rattle.pp_macros.proofs.open_frames.FlatLemmas.{outermost_flat}
use Rattle.pp_lexer.specs.declared.token.Integer.{Integer}

-- what a token becomes that is taken, whether from the list or from the reader
pub taken_flat : (shown : ℕ → Option Integer) (frames : List Frame) (reader : Reader) (read : Read) → ((line : ℕ) → shown line ≡ shown_line reader line)
    → shown_token shown (flat frames) read ≡ taken_in frames reader read
taken_flat shown frames reader read same =
    let place = λ (line : Option ℕ). unwrap_or line read.token.location.line in
    let number : shown (place (outermost_line (flat frames))) ≡ shown_line reader (place (outermost_frame_line frames)) =
    ap (λ call. shown (place (option_map (λ c. c.line) call))) (outermost_flat frames) ∙ same (place (outermost_frame_line frames)) in
    ap (λ n. if is_identifier line_name read.token.value then line_number (place_of read) n else given.Token read) number

-- a macro that a token opens
abbrev pub as_opening : Read → Option (Name × Definition) → Option Opening
as_opening read None = None
as_opening read (Some (name, definition)) = Some (record { text = read.text; token = read.token; name = name; definition = definition })
