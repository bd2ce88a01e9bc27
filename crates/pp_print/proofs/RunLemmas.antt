-- Printing the tokens of a run one by one
use Rattle.std.proofs.Common.{◌≡◌, ℕ, false, List, [], ◌∷◌, ◌++◌, Option, Some, None, Ok, refl, sym, ap, ◌∙◌, append_assoc, append-nil, String, string_bytes}
use Rattle.std.specs.Io.KnownBytes.{Appends}
use Rattle.std.specs.Str.{encode_utf8_all}
use Rattle.std.proofs.lemmas.Str.{IsUtf8-string_bytes}
use Rattle.std.proofs.lemmas.Grind.{flat_map-append}
use Rattle.pp_model.specs.declared.outcome.Outcome.TheVariants as outcome
use Rattle.pp_rs.specs.Comes.{State, Comes}
use Rattle.pp_rs.specs.Kept.{Preprocessing, Stands, is_spent}
use Rattle.pp_rs.specs.Preprocessing.{IsNextItem}
use Rattle.pp_rs.specs.Spelling.{spelling}
use Rattle.pp_rs.specs.TokenValue.{is_ordinary}
use Rattle.pp_rs.specs.Giving.{AreGiven, nothing, one_more}
use Rattle.pp_rs.specs.TokenRefs.{value_of, token_of, TakesText}
use Rattle.pp_rs.specs.declared.pp.token_ref.TokenRef.{TokenRef}
use Rattle.pp_rs.specs.declared.token.Token.{Token}
use Rattle.pp_rs.proofs.runs.ComesLemmas.{gives_nothing, gives_more}
use Rattle.pp_rs.specs.Output.{output_lines, written_lines, output}
use Rattle.pp_rs.specs.inner.OutputLines.{begun_line, extended, line_after, ended_lines, lines_from}
use Rattle.pp_print.specs.Runs.{IsPrinted, IsBegun}
use Rattle.pp_print.specs.inner.Printing.{IsPrinting, IsPrintingText, spaced}
use Rattle.pp_print.specs.SourceRuns.{last_outcome, AreFirstFrom, EndsFrom}
use Rattle.pp_print.specs.declared.ends.RunEnd.{RunEnd}
use Rattle.pp_rs.proofs.OutputLemmas.{output_lines-from}
use Rattle.pp_rs.proofs.runs.GivingLemmas.{given_unspent, refers_to_ordinary}
use Rattle.pp_print.proofs.NextLemmas.{next_token}
use Rattle.pp_print.proofs.TextLemmas.{text_pushed}
use Rattle.pp_print.proofs.WriteLemmas.{appends_nothing, appends_more}

-- lines that are written after others
appends_lines : (a b c : Option (List ℕ)) (first second : List (List ℕ)) → Appends a b (written_lines first) → Appends b c (written_lines second)
    → Appends a c (written_lines (first ++ second))
appends_lines a b c first second f s = rw (flat_map-append (λ (line : List ℕ). line ++ (10 ∷ [])) first second) (appends_more a b c
    (written_lines first) (written_lines second) f s)

-- nothing is printed before the first item
pub printing_starts : (start : State) (items : Preprocessing) (known : Option (List ℕ)) → Stands items start → IsPrinting start items None known known
printing_starts start items known stands = record {
  tokens = [];
  state = start;
  given = gives_nothing start;
  now = stands;
  done = [];
  lines = output_lines-from;
  written = appends_nothing known;
}

module _ (start : State) (items : Preprocessing) (line old mid new : Option (List ℕ)) (p : IsPrinting start items line old mid) where
  -- a token is printed: it goes to the line, or ends it
  pub printing_goes_on : (left : Preprocessing) (t : Token) (after : State) (longer : Option (List ℕ)) → Comes p.state (outcome.Token t) after
      → Stands left after → longer ≡ line_after line t.value → Appends mid new (written_lines (ended_lines line t.value))
      → IsPrinting start left longer old new
  printing_goes_on left t after longer comes stands f w = rw f (record {
    tokens = p.tokens ++ (t ∷ []);
    state = after;
    given = gives_more p.tokens t start p.state after p.given comes;
    now = stands;
    done = p.done ++ ended_lines line t.value;
    lines = λ more. ap output_lines (append_assoc p.tokens (t ∷ []) more) ∙ p.lines (t ∷ more)
        ∙ sym (append_assoc p.done (ended_lines line t.value) (lines_from (line_after line t.value) more));
    written = appends_lines old mid new p.done (ended_lines line t.value) p.written w;
  })

  -- the lines that are done and the one that has been begun are the whole output
  whole_output : Appends mid new (written_lines (begun_line line)) → Appends old new (output p.tokens)
  whole_output w =
      let whole : output_lines p.tokens ≡ p.done ++ begun_line line = ap output_lines (sym (append-nil p.tokens)) ∙ p.lines [] in
      rw whole (appends_lines old mid new p.done (begun_line line) p.written w)

  -- at the end, or an error, all before it is printed
  pub printing_ends : (end : RunEnd) (after : State) → Comes p.state (last_outcome end) after → Appends mid new (written_lines (begun_line line))
      → IsPrinted (EndsFrom start) end old new
  printing_ends end after comes w = record {
    tokens = p.tokens;
    run = record { before = p.state; gives = p.given; after = after; ends = comes };
    written = whole_output w;
  }

-- what is printed so far begins the output
pub printing_begun : (start : State) (items : Preprocessing) (line old new : Option (List ℕ)) → IsPrinting start items line old new
    → IsBegun (AreFirstFrom start) old new
printing_begun start items line old new p = record {
  tokens = p.tokens;
  first = record { after = p.state; gives = p.given };
  lines = p.done;
  begin = λ more. (lines_from line more, p.lines more);
  written = p.written;
}

-- nothing is in the line before the first token
pub text_starts : (start : State) (items : Preprocessing) (text : List ℕ) (known : Option (List ℕ)) → Stands items start → text ≡ []
    → IsPrintingText start items text known known
text_starts start items text known stands e = record { line = None; is = e; printing = printing_starts start items known stands }

-- one more word of the line
spaced_more : (line : Option (List ℕ)) (word : List ℕ) → spaced line ++ (word ++ 32 ∷ []) ≡ spaced (Some (extended line word))
spaced_more None word = refl
spaced_more (Some line) word = append_assoc line (32 ∷ []) (word ++ 32 ∷ []) ∙ sym (append_assoc line (32 ∷ word) (32 ∷ []))

-- a token that the text takes goes to the line
token_taken : {Z : Type 0} (start : State) (now left : Preprocessing) (before after : String Z) (old new : Option (List ℕ)) (token : TokenRef)
    → is_spent now ≡ false → IsPrintingText start now (string_bytes before) old new → IsNextItem now (Some (Ok (token_of token))) left
    → TakesText before token after → IsPrintingText start left (string_bytes after) old new
token_taken start now left before after old new token fresh p next taken =
    let word = encode_utf8_all (spelling (value_of token.value)) in
    let longer = Some (extended p.line word) in
    let ordinary = refers_to_ordinary token in
    let came = next_token now left fresh (token_of token) next p.printing.state p.printing.now in
    record {
      line = longer;
      is = text_pushed (string_bytes before) (string_bytes after) (spelling (value_of token.value)) (IsUtf8-string_bytes before)
          (IsUtf8-string_bytes after) taken ∙ ap (λ t. t ++ (word ++ 32 ∷ [])) p.is ∙ spaced_more p.line word;
      printing = printing_goes_on start now p.line old new new p.printing left (token_of token) came.0 longer came.1 came.2
          (rw ordinary refl) (rw ordinary (appends_nothing new));
    }

-- so do all tokens that it takes
pub tokens_taken : {Z : Type 0} (start : State) (items : Preprocessing) (text : String Z) (old new : Option (List ℕ)) → is_spent items ≡ false
    → IsPrintingText start items (string_bytes text) old new → (left : Preprocessing) (longer : String Z) → AreGiven TakesText items text left longer
    → IsPrintingText start left (string_bytes longer) old new
tokens_taken start items text old new fresh p left longer (nothing q s e f) = rw (e, f) p
tokens_taken start items text old new fresh p left longer (one_more token now q between s given next line taken) =
    token_taken start now left between longer old new token (given_unspent TakesText items text now between given fresh)
    (tokens_taken start items text old new fresh p now between given) next taken

-- a directive is printed after the line
pub directive_printed : (start : State) (items left : Preprocessing) (text empty : List ℕ) (old mid new : Option (List ℕ)) (t : Token) (after : State)
    → (p : IsPrintingText start items text old mid) → Comes p.printing.state (outcome.Token t) after → Stands left after → is_ordinary t.value ≡ false
    → Appends mid new (written_lines (ended_lines p.line t.value)) → empty ≡ [] → IsPrintingText start left empty old new
directive_printed start items left text empty old mid new t after p comes stands directive written e = record {
  line = None;
  is = e;
  printing = printing_goes_on start items p.line old mid new p.printing left t after None comes stands (rw directive refl) written;
}
