-- The lines of blocks among items that stand elsewhere, and among items that follow one another.
use Rattle.std.proofs.Common.{◌≡◌, ◌∙◌, ℕ, zero, suc, ◌+◌, ◌<◌, Bool, true, false, List, [], ◌∷◌, ◌++◌, length, take, drop, refl, ap, sym, append-nil, Option, Some, None, arith}
use Rattle.std.specs.Prelude.{Ok, Err}
use Rattle.std.proofs.Math.Nat.{add-zero}
use Rattle.std.specs.List.{cons_option}
use Rattle.pp_lexer.specs.Lexed.{Seen}
use Rattle.pp_lexer.specs.Items.{Lexeme}
use Rattle.pp_lexer.specs.declared.token.Location.{Location}
use Rattle.pp_lexer.specs.declared.lexer.item.Token.{Token as LexerToken}
use Rattle.pp_lexer.specs.declared.lexer.item.TokenValue.{TokenValue as LexerTokenValue}
use Rattle.pp_lexer.specs.declared.lexer.item.TokenValue.TheVariants.{Hash, NewLine}
use Rattle.pp_model.specs.Lines.{ends_line}
use Rattle.pp_model.specs.Sights.{sight_of}
use Rattle.pp_model.specs.Blocks.{part_of, line_at, block_lines}
use Rattle.pp_model.specs.IncludeLaws.{are_whole_lines}
use Rattle.pp_model.specs.inner.Alike.{Pairs, Both}
use Rattle.pp_model.specs.inner.Blocks.{line_with}
use Rattle.pp_model.specs.declared.block.BlockLine.{BlockLine}
use Rattle.pp_model.specs.declared.block.Part.{Part}
use Rattle.pp_model.specs.declared.directive.Directive.{Directive}
use Rattle.pp_model.specs.declared.sight.Sight.{Sight}
use Rattle.pp_model.specs.declared.sight.Sight.TheVariants as sight
use Rattle.pp_model.proofs.including.PairsLemmas.{pairs_cons}

-- Two lines with one word do the same to a block, and their positions are in this relation.
pub record AlikeLines (S : ℕ → ℕ → Type 0) (line other : BlockLine) : Type 0 where
  pub part : line.part ≡ other.part
  pub word : line.word ≡ other.word
  pub stands : S line.position other.position

module _ (S : ℕ → ℕ → Type 0) where
  part_alike : (position other : ℕ) (word : Location) (p : Option Part) → S position other
      → Both (AlikeLines S) (line_with position word p) (line_with other word p)
  part_alike position other word (Some p) h = record { part = refl; word = refl; stands = h }
  part_alike position other word None h = tt

  -- what is at the front of some items is the same line of a block at two positions
  line_alike : (position other : ℕ) (shown : Sight) → S position other → Both (AlikeLines S) (line_at position shown) (line_at other shown)
  line_alike position other (sight.Directive directive word) h = part_alike position other word (part_of directive) h
  line_alike position other _ h = tt

  -- the lines of blocks among items are the same from two positions on
  pub lines_alike : (position other : ℕ) (items : List Seen) → ((i : ℕ) → i < length items → S (position + i) (other + i))
      → Pairs (AlikeLines S) (block_lines position items) (block_lines other items)
  lines_alike position other [] all = tt
  lines_alike position other (s ∷ rest) all =
      pairs_cons (AlikeLines S) (line_at position (sight_of (s ∷ rest))) (line_at other (sight_of (s ∷ rest)))
      (block_lines (position + 1) rest) (block_lines (other + 1) rest)
      (line_alike position other (sight_of (s ∷ rest)) (rw (add-zero position, add-zero other) at (all 0 (omega arith))))
      (lines_alike (position + 1) (other + 1) rest (λ i within. rw (one_further position i, one_further other i) (all (suc i) (omega (arith, within)))))
    where
      one_further : (p i : ℕ) → p + 1 + i ≡ p + suc i
      one_further p i = omega arith

alone_value : (position : ℕ) (token : LexerToken) (value : LexerTokenValue) (at_start comments : Bool)
    → block_lines position (record { item = Ok (record token { value = value; start_of_line = at_start }); had_comments = comments } ∷ []) ≡ []
alone_value position token Hash true comments = refl
alone_value position token Hash false comments = refl
alone_value position token NewLine at_start comments = refl
alone_value position token _ at_start comments = refl

alone_lexeme : (position : ℕ) (item : Lexeme) (comments : Bool) → block_lines position (record { item = item; had_comments = comments } ∷ []) ≡ []
alone_lexeme position (Ok token) comments = alone_value position token token.value token.start_of_line comments
alone_lexeme position (Err fault) comments = refl

-- an item alone is no line of a block
pub alone : (position : ℕ) (s : Seen) → block_lines position (s ∷ []) ≡ []
alone position s = alone_lexeme position s.item s.had_comments

same_lexeme : (item : Lexeme) (comments : Bool) (next : Seen) (later other : List Seen)
    → sight_of (record { item = item; had_comments = comments } ∷ next ∷ later) ≡ sight_of (record { item = item; had_comments = comments } ∷ next ∷ other)
same_lexeme (Ok token) comments next later other = refl
same_lexeme (Err fault) comments next later other = refl

-- what stands in front is known by two items
pub same_sight : (s next : Seen) (later other : List Seen) → sight_of (s ∷ next ∷ later) ≡ sight_of (s ∷ next ∷ other)
same_sight s next later other = same_lexeme s.item s.had_comments next later other

pub cons_more : (found : Option BlockLine) (lines others : List BlockLine) → cons_option found (lines ++ others) ≡ cons_option found lines ++ others
cons_more (Some line) lines others = refl
cons_more None lines others = refl

-- these lines are the first of those
pub record ComeFirst (lines all : List BlockLine) : Type 0 where
  pub others : List BlockLine
  pub split : all ≡ lines ++ others

-- the lines among the first of the items are the first lines
pub lines_first : (n position : ℕ) (items : List Seen) → ComeFirst (block_lines position (take n items)) (block_lines position items)
lines_first zero position items = record { others = block_lines position items; split = refl }
lines_first (suc n) position [] = record { others = []; split = refl }
lines_first (suc zero) position (s ∷ rest) = record {
  others = block_lines position (s ∷ rest);
  split = ap (λ lines. lines ++ block_lines position (s ∷ rest)) (sym (alone position s));
}
lines_first (suc (suc n)) position (s ∷ []) = record { others = []; split = sym (append-nil (block_lines position (s ∷ []))) }
lines_first (suc (suc n)) position (s ∷ next ∷ later) =
    let more = lines_first (suc n) (position + 1) (next ∷ later) in
    record {
      others = more.others;
      split = ap (λ lines. cons_option (line_at position (sight_of (s ∷ next ∷ later))) lines) more.split
          ∙ cons_more (line_at position (sight_of (s ∷ next ∷ later))) (block_lines (position + 1) (next ∷ take n later)) more.others
          ∙ ap (λ shown. cons_option (line_at position shown) (block_lines (position + 1) (next ∷ take n later)) ++ more.others)
          (same_sight s next later (take n later));
    }

end_lexeme : (position : ℕ) (item : Lexeme) (comments : Bool) (rest : List Seen) → ends_line item ≡ true
    → line_at position (sight_of (record { item = item; had_comments = comments } ∷ rest)) ≡ None
end_lexeme position (Ok token) comments rest e = rw e refl
end_lexeme position (Err fault) comments rest e = refl

-- what ends a line is no line of a block
line_end_quiet : (position : ℕ) (s : Seen) (rest : List Seen) → ends_line s.item ≡ true → line_at position (sight_of (s ∷ rest)) ≡ None
line_end_quiet position s rest = end_lexeme position s.item s.had_comments rest

-- the lines of blocks among whole lines, and among the items after them
pub lines_append : (position : ℕ) (lines after : List Seen) → are_whole_lines lines ≡ true
    → block_lines position (lines ++ after) ≡ block_lines position lines ++ block_lines (position + length lines) after
lines_append position [] after whole = rw add-zero refl
lines_append position (s ∷ []) after whole = rw (line_end_quiet position s after whole, line_end_quiet position s [] whole) refl
lines_append position (s ∷ next ∷ later) after whole =
    rw (same_sight s next (later ++ after) later, lines_append (position + 1) (next ∷ later) after whole, further)
    (cons_more (line_at position (sight_of (s ∷ next ∷ later))) (block_lines (position + 1) (next ∷ later))
    (block_lines (position + length (s ∷ next ∷ later)) after))
  where
    further : position + 1 + length (next ∷ later) ≡ position + length (s ∷ next ∷ later)
    further = omega arith

-- a value of the lexer before a number sign begins no directive with a word
before_hash : (position : ℕ) (token next : LexerToken) (value : LexerTokenValue) (at_start comments noted begins : Bool) (rest : List Seen)
    → line_at position (sight_of (record { item = Ok (record token { value = value; start_of_line = at_start }); had_comments = comments }
    ∷ record { item = Ok (record next { value = Hash; start_of_line = begins }); had_comments = noted } ∷ rest)) ≡ None
before_hash position token next Hash true comments noted begins rest = refl
before_hash position token next Hash false comments noted begins rest = refl
before_hash position token next NewLine at_start comments noted begins rest = refl
before_hash position token next _ at_start comments noted begins rest = refl

before_lexeme : (position : ℕ) (item : Lexeme) (next : LexerToken) (comments noted begins : Bool) (rest : List Seen)
    → line_at position (sight_of (record { item = item; had_comments = comments }
    ∷ record { item = Ok (record next { value = Hash; start_of_line = begins }); had_comments = noted } ∷ rest)) ≡ None
before_lexeme position (Ok token) next comments noted begins rest =
    before_hash position token next token.value token.start_of_line comments noted begins rest
before_lexeme position (Err fault) next comments noted begins rest = refl

before_value : (position : ℕ) (s : Seen) (next : LexerToken) (value : LexerTokenValue) (begins noted : Bool) (rest : List Seen)
    (directive : Directive) (word : Location)
    → sight_of (record { item = Ok (record next { value = value; start_of_line = begins }); had_comments = noted } ∷ rest) ≡ sight.Directive directive word
    → line_at position (sight_of (s ∷ record { item = Ok (record next { value = value; start_of_line = begins }); had_comments = noted } ∷ rest)) ≡ None
before_value position s next Hash begins noted rest directive word e = before_lexeme position s.item next s.had_comments noted begins rest
before_value position s next NewLine begins noted rest directive word e = cc
before_value position s next _ begins noted rest directive word e = cc

-- the item before a directive is no line of a block
before_directive : (position : ℕ) (s : Seen) (rest : List Seen) (directive : Directive) (word : Location) → sight_of rest ≡ sight.Directive directive word
    → line_at position (sight_of (s ∷ rest)) ≡ None
before_directive position s [] directive word e = cc
before_directive position s (next ∷ rest) directive word e = at_item next.item next.had_comments e
  where
    at_item : (item : Lexeme) (noted : Bool) → sight_of (record { item = item; had_comments = noted } ∷ rest) ≡ sight.Directive directive word
        → line_at position (sight_of (s ∷ record { item = item; had_comments = noted } ∷ rest)) ≡ None
    at_item (Ok token) noted e = before_value position s token token.value token.start_of_line noted rest directive word e
    at_item (Err fault) noted e = cc

-- the lines of blocks before a directive, and from it on
pub lines_at_directive : (n position : ℕ) (items : List Seen) (directive : Directive) (word : Location)
    → sight_of (drop n items) ≡ sight.Directive directive word
    → block_lines position items ≡ block_lines position (take n items) ++ block_lines (position + n) (drop n items)
lines_at_directive zero position items directive word e = rw (add-zero position) refl
lines_at_directive (suc n) position [] directive word e = cc
lines_at_directive (suc zero) position (s ∷ rest) directive word e =
    ap (λ found. cons_option found (block_lines (position + 1) rest)) (before_directive position s rest directive word e)
    ∙ ap (λ lines. lines ++ block_lines (position + 1) rest) (sym (alone position s))
lines_at_directive (suc (suc n)) position (s ∷ []) directive word e = cc
lines_at_directive (suc (suc n)) position (s ∷ next ∷ later) directive word e =
    rw (lines_at_directive (suc n) (position + 1) (next ∷ later) directive word e, same_sight s next later (take n later), further)
    (cons_more (line_at position (sight_of (s ∷ next ∷ take n later))) (block_lines (position + 1) (next ∷ take n later))
    (block_lines (position + suc (suc n)) (drop n later)))
  where
    further : position + 1 + suc n ≡ position + suc (suc n)
    further = omega arith

-- the line in front of some items
pub front_line : (position : ℕ) (items : List Seen) (line : BlockLine) → line_at position (sight_of items) ≡ Some line
    → (later : List BlockLine) × (block_lines position items ≡ line ∷ later)
front_line position [] line e = cc
front_line position (s ∷ rest) line e = (block_lines (position + 1) rest, rw e refl)
