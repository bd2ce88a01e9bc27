-- What one more line does to the open blocks.
use Rattle.std.proofs.Common.{◌≡◌, ◌∙◌, ℕ, Bool, true, false, ◌&&◌, not, if◌then◌else◌, List, [], ◌∷◌, ◌++◌, length, refl, ap, sym, append-nil}
use Rattle.std.specs.Prelude.{Some, None}
use Rattle.std.specs.List.{cons_option}
use Rattle.std.proofs.Math.Bool.{and-true}
use Rattle.pp_model.specs.Blocks.{opens, Block, open_blocks}
use Rattle.pp_model.specs.declared.block.BlockLine.{BlockLine}
use Rattle.pp_model.specs.declared.block.Part.{Part}
use Rattle.pp_model.specs.declared.block.Part.TheVariants as part
use Rattle.pp_rs.proofs.blocks.InnerBlocksLemmas.{closes_block, stays_open, parts_block, parting, open_blocks_step, is_not_zero, inner_after_lines, inner_open, stays_open_append, parting_append}

-- the block that a line opens
abbrev pub opened : BlockLine → Block
opened line = record { first = line; partings = [] }

-- the block, which the line parts
abbrev pub parted : Block → BlockLine → Block
parted block line = record block { partings = block.partings ++ line ∷ [] }

-- after a line, where no block is open before it
abbrev pub blocks_from_none : Part → BlockLine → List Block
blocks_from_none part.Opens line = opened line ∷ []
blocks_from_none _ line = []

-- after a line, where one block is open before it
abbrev pub blocks_from_one : Part → BlockLine → Block → List Block
blocks_from_one part.Opens line block = block ∷ opened line ∷ []
blocks_from_one part.Closes line block = []
blocks_from_one _ line block = parted block line ∷ []

-- the blocks that are open after a line, where these are open before it: it does what it does to the last of them
abbrev pub blocks_after : Part → BlockLine → List Block → List Block
blocks_after p line [] = blocks_from_none p line
blocks_after p line (block ∷ []) = blocks_from_one p line block
blocks_after p line (block ∷ next ∷ inner) = block ∷ blocks_after p line (next ∷ inner)

-- a block that stays open before a line, and the inner ones
inner_step : (p : Part) (first line : BlockLine) (marks : List BlockLine) (inner : List Block)
    → (if not (closes_block p (length inner)) then record {
      first = first;
      partings = marks ++ (if parts_block p (length inner) then line ∷ [] else []);
    } ∷ blocks_after p line inner else blocks_after p line inner)
    ≡ blocks_after p line (record { first = first; partings = marks } ∷ inner)
inner_step part.Opens first line marks [] = ap (λ (m : List BlockLine). record { first = first; partings = m } ∷ opened line ∷ []) (append-nil marks)
inner_step part.Opens first line marks (next ∷ inner) =
    ap (λ (m : List BlockLine). record { first = first; partings = m } ∷ blocks_after part.Opens line (next ∷ inner)) (append-nil marks)
inner_step p first line marks [] = refl
inner_step p first line marks (next ∷ inner) = rw (is_not_zero (length inner))
    (ap (λ (m : List BlockLine). record { first = first; partings = m } ∷ blocks_after p line (next ∷ inner)) (append-nil marks))

block_step : (p : Part) (begins stays : Bool) (depth : ℕ) (first line : BlockLine) (marks : List BlockLine) (inner : List Block)
    → (stays ≡ true → depth ≡ length inner)
    → (if begins && (stays && (not (closes_block p depth) && true)) then record
    { first = first; partings = marks ++ (if parts_block p depth then line ∷ [] else []) } ∷ blocks_after p line inner else blocks_after p line inner)
    ≡ blocks_after p line (if begins && stays then record { first = first; partings = marks } ∷ inner else inner)
block_step p false stays depth first line marks inner e = refl
block_step p true false depth first line marks inner e = refl
block_step p true true depth first line marks inner e = rw (and-true (not (closes_block p depth)), e refl) (inner_step p first line marks inner)

first_line : (p : Part) (line : BlockLine) → cons_option (if opens p then Some (opened line) else None) [] ≡ blocks_from_none p line
first_line part.Opens line = refl
first_line _ line = refl

-- the blocks that are open after one more line
pub open_blocks_more : (lines : List BlockLine) (line : BlockLine) → open_blocks (lines ++ line ∷ []) ≡ blocks_after line.part line (open_blocks lines)
open_blocks_more [] line = first_line line.part line
open_blocks_more (first ∷ later) line =
    open_blocks_step first (later ++ line ∷ [])
    ∙ rw (stays_open_append 0 later (line ∷ []), parting_append 0 later (line ∷ []), open_blocks_more later line)
    (block_step line.part (opens first.part) (stays_open 0 later) (inner_after_lines 0 later) first line (parting 0 later) (open_blocks later)
    (inner_open later))
    ∙ ap (λ (blocks : List Block). blocks_after line.part line blocks) (sym (open_blocks_step first later))

-- a line that opens a block adds it
pub after_opens : (line : BlockLine) (blocks : List Block) → blocks_after part.Opens line blocks ≡ blocks ++ opened line ∷ []
after_opens line [] = refl
after_opens line (block ∷ []) = refl
after_opens line (block ∷ next ∷ inner) = ap (λ blocks. block ∷ blocks) (after_opens line (next ∷ inner))

-- a line that closes a block takes the last one
pub after_closes : (line : BlockLine) (before : List Block) (block : Block) → blocks_after part.Closes line (before ++ block ∷ []) ≡ before
after_closes line [] block = refl
after_closes line (first ∷ []) block = refl
after_closes line (first ∷ next ∷ inner) block = ap (λ blocks. first ∷ blocks) (after_closes line (next ∷ inner) block)

none_parts : (p : Part) (line : BlockLine) → parts_block p 0 ≡ true → blocks_from_none p line ≡ []
none_parts part.Elif line h = refl
none_parts part.Else line h = refl
none_parts _ line h = cc

one_parts : (p : Part) (line : BlockLine) (block : Block) → parts_block p 0 ≡ true → blocks_from_one p line block ≡ parted block line ∷ []
one_parts part.Elif line block h = refl
one_parts part.Else line block h = refl
one_parts _ line block h = cc

-- a line that parts a block parts the last one
pub after_parts : (p : Part) (line : BlockLine) (before : List Block) (block : Block) → parts_block p 0 ≡ true
    → blocks_after p line (before ++ block ∷ []) ≡ before ++ parted block line ∷ []
after_parts p line [] block h = one_parts p line block h
after_parts p line (first ∷ []) block h = ap (λ blocks. first ∷ blocks) (one_parts p line block h)
after_parts p line (first ∷ next ∷ inner) block h = ap (λ blocks. first ∷ blocks) (after_parts p line (next ∷ inner) block h)

pub opens_one : (lines : List BlockLine) (line : BlockLine) → line.part ≡ part.Opens → open_blocks (lines ++ line ∷ []) ≡ open_blocks lines ++ opened line ∷ []
opens_one lines line is = open_blocks_more lines line ∙ ap (λ p. blocks_after p line (open_blocks lines)) is ∙ after_opens line (open_blocks lines)

pub closes_one : (lines : List BlockLine) (line : BlockLine) (before : List Block) (block : Block) → line.part ≡ part.Closes
    → open_blocks lines ≡ before ++ block ∷ [] → open_blocks (lines ++ line ∷ []) ≡ before
closes_one lines line before block is e = open_blocks_more lines line ∙ ap (λ p. blocks_after p line (open_blocks lines)) is
    ∙ ap (λ blocks. blocks_after part.Closes line blocks) e ∙ after_closes line before block

pub parts_one : (lines : List BlockLine) (line : BlockLine) (before : List Block) (block : Block) → parts_block line.part 0 ≡ true
    → open_blocks lines ≡ before ++ block ∷ []
    → open_blocks (lines ++ line ∷ []) ≡ before ++ parted block line ∷ []
parts_one lines line before block is e = open_blocks_more lines line ∙ ap (λ blocks. blocks_after line.part line blocks) e
    ∙ after_parts line.part line before block is

pub closes_none : (lines : List BlockLine) (line : BlockLine) → line.part ≡ part.Closes → open_blocks lines ≡ [] → open_blocks (lines ++ line ∷ []) ≡ []
closes_none lines line is e = open_blocks_more lines line ∙ ap (λ blocks. blocks_after line.part line blocks) e ∙ ap (λ p. blocks_from_none p line) is

pub parts_none : (lines : List BlockLine) (line : BlockLine) → parts_block line.part 0 ≡ true → open_blocks lines ≡ [] → open_blocks (lines ++ line ∷ []) ≡ []
parts_none lines line is e = open_blocks_more lines line ∙ ap (λ blocks. blocks_after line.part line blocks) e ∙ none_parts line.part line is
