-- Blocks that stay within some lines: they part, close and leave open none of the lines around these.
use Rattle.std.proofs.Common.{◌≡◌, ◌∙◌, ℕ, zero, suc, ◌+◌, ◌-◌, ◌<◌, true, false, if◌then◌else◌, List, [], ◌∷◌, ◌++◌, refl, ap, append-nil, Option, Some, None, arith}
use Rattle.std.specs.Prelude.{◌==◌, option_map}
use Rattle.std.specs.List.{cons_option}
use Rattle.std.proofs.Math.Dec.{eqb-suc-zero}
use Rattle.std.proofs.Math.Nat.{zero-add, suc-add}
use Rattle.std.proofs.Math.Numerals.{add-one}
use Rattle.pp_lexer.specs.declared.token.Location.{Location}
use Rattle.pp_model.specs.Blocks.{opens, partings_of, Block, opened_by, open_blocks}
use Rattle.pp_model.specs.IncludeLaws.{are_closed}
use Rattle.pp_model.specs.declared.block.BlockLine.{BlockLine}
use Rattle.pp_model.specs.declared.block.Part.{Part}
use Rattle.pp_model.specs.declared.block.Part.TheVariants as part

-- each block around has the same partings among these lines as among those
abbrev pub PartAlike : List BlockLine → List BlockLine → Type 0
PartAlike lines others = (inner : ℕ) → partings_of inner lines ≡ partings_of inner others

-- so it has with one more line before both
part_alike_more : (line : BlockLine) (lines others : List BlockLine) → PartAlike lines others → PartAlike (line ∷ lines) (line ∷ others)
part_alike_more line lines others same inner = simp same

-- and with more
pub part_alike_after : (front lines others : List BlockLine) → PartAlike lines others → PartAlike (front ++ lines) (front ++ others)
part_alike_after [] lines others same = same
part_alike_after (line ∷ front) lines others same = part_alike_more line (front ++ lines) (front ++ others) (part_alike_after front lines others same)

opened_same : (line : BlockLine) (lines others : List BlockLine) → PartAlike lines others → opened_by line lines ≡ opened_by line others
opened_same line lines others same = rw (same 0) refl

-- then the same blocks are open too, if they are without the lines before
pub open_alike_after : (front lines others : List BlockLine) → PartAlike lines others → open_blocks lines ≡ open_blocks others
    → open_blocks (front ++ lines) ≡ open_blocks (front ++ others)
open_alike_after [] lines others same opened = opened
open_alike_after (line ∷ front) lines others same opened =
    rw (opened_same line (front ++ lines) (front ++ others) (part_alike_after front lines others same), open_alike_after front lines others same opened) refl

cons_block : (found : Option Block) (blocks more : List Block) → cons_option found (blocks ++ more) ≡ cons_option found blocks ++ more
cons_block (Some block) blocks more = refl
cons_block None blocks more = refl

-- lines that part no block around them leave open what was open before them, and their own blocks
pub open_blocks_append : (front lines : List BlockLine) → PartAlike lines [] → open_blocks (front ++ lines) ≡ open_blocks front ++ open_blocks lines
open_blocks_append [] lines same = refl
open_blocks_append (line ∷ front) lines same =
    rw (opened_same line (front ++ lines) front without, open_blocks_append front lines same)
    (cons_block (opened_by line front) (open_blocks front) (open_blocks lines))
  where
    without : PartAlike (front ++ lines) front
    without inner = part_alike_after front lines [] same inner ∙ ap (partings_of inner) (append-nil front)

-- so many are not none
more_open : (inner around : ℕ) → suc inner + around == 0 ≡ false
more_open inner around = rw (suc-add inner around) (eqb-suc-zero (inner + around))

-- the same line at some position
abbrev the_line : ℕ → Location → Part → BlockLine
the_line position word p = record { position = position; word = word; part = p }

-- Of lines, `known` is shown one line after another, if at most `inner` blocks that are open before `others` are closed by these.
module _ (lines others : List BlockLine) (position : ℕ) (word : Location) where
  -- the partings of a block around those
  around_at : (p : Part) (inner around : ℕ) (known : Option (List BlockLine))
      → ((deeper : ℕ) → are_closed deeper others ≡ true → partings_of (deeper + around) lines ≡ known)
      → are_closed inner (the_line position word p ∷ others) ≡ true
      → partings_of (inner + around) (the_line position word p ∷ lines) ≡ known
  around_at part.Opens inner around known further closed =
      let deeper : inner + around + 1 ≡ inner + 1 + around = omega arith in
      rw deeper (further (inner + 1) closed)
  around_at part.Closes zero around known further closed = cc
  around_at part.Closes (suc inner) around known further closed =
      let back : suc inner + around - 1 ≡ suc inner - 1 + around = omega arith in
      rw (more_open inner around, back) (further (suc inner - 1) (rw (eqb-suc-zero inner) at closed))
  around_at _ zero around known further closed = cc
  around_at _ (suc inner) around known further closed = rw (more_open inner around) (further (suc inner) (rw (eqb-suc-zero inner) at closed))

  -- that one of those is closed
  closes_at : (p : Part) (shallow inner : ℕ)
      → ((less deeper : ℕ) → less < deeper → are_closed deeper others ≡ true → partings_of less lines ≡ None)
      → shallow < inner → are_closed inner (the_line position word p ∷ others) ≡ true
      → partings_of shallow (the_line position word p ∷ lines) ≡ None
  closes_at part.Opens shallow inner further h closed = further (shallow + 1) (inner + 1) (omega arith) closed
  closes_at p shallow zero further h closed = absurd (omega arith)
  closes_at part.Closes zero (suc inner) further h closed = refl
  closes_at part.Closes (suc shallow) (suc inner) further h closed =
      rw (eqb-suc-zero shallow) (further (suc shallow - 1) (suc inner - 1) (omega arith) (rw (eqb-suc-zero inner) at closed))
  closes_at _ zero (suc inner) further h closed =
      ap (option_map _) (further zero (suc inner) h (rw (eqb-suc-zero inner) at closed))
  closes_at _ (suc shallow) (suc inner) further h closed =
      rw (eqb-suc-zero shallow) (further (suc shallow) (suc inner) h (rw (eqb-suc-zero inner) at closed))

  -- which blocks they leave open
  leaves_at : (p : Part) (inner : ℕ) (known : List Block)
      → ((deeper : ℕ) → are_closed deeper others ≡ true → open_blocks lines ≡ known)
      → ((deeper : ℕ) → 0 < deeper → are_closed deeper others ≡ true → partings_of 0 lines ≡ None)
      → are_closed inner (the_line position word p ∷ others) ≡ true
      → open_blocks (the_line position word p ∷ lines) ≡ known
  leaves_at part.Opens inner known further first closed =
      rw (first (inner + 1) (omega arith) closed) (further (inner + 1) closed)
  leaves_at part.Closes zero known further first closed = cc
  leaves_at part.Closes (suc inner) known further first closed = further (suc inner - 1) (rw (eqb-suc-zero inner) at closed)
  leaves_at _ zero known further first closed = cc
  leaves_at _ (suc inner) known further first closed = further (suc inner) (rw (eqb-suc-zero inner) at closed)

-- Lines that close at most the `inner` blocks that are open before them part none of those around.
around_unparted : (inner around : ℕ) (lines later : List BlockLine) → are_closed inner (lines ++ later) ≡ true
    → partings_of (inner + around) lines ≡ Some []
around_unparted inner around [] later closed = refl
around_unparted inner around (line ∷ lines) later closed =
    around_at lines (lines ++ later) line.position line.word line.part inner around (Some []) (λ deeper. around_unparted deeper around lines later) closed

-- once they have closed all of these, the partings around are those of the later lines
closed_passed : (inner around : ℕ) (lines later : List BlockLine) → are_closed inner lines ≡ true
    → partings_of (inner + around) (lines ++ later) ≡ partings_of around later
closed_passed zero around [] later closed = rw zero-add refl
closed_passed (suc inner) around [] later closed = let none : suc inner == 0 ≡ false = eqb-suc-zero inner in cc
closed_passed inner around (line ∷ lines) later closed =
    around_at (lines ++ later) lines line.position line.word line.part inner around (partings_of around later)
    (λ deeper. closed_passed deeper around lines later) closed

-- each of these blocks is closed
inner_closed : (shallow inner : ℕ) (lines later : List BlockLine) → shallow < inner → are_closed inner lines ≡ true
    → partings_of shallow (lines ++ later) ≡ None
inner_closed shallow zero [] later h closed = absurd (omega arith)
inner_closed shallow (suc inner) [] later h closed = let none : suc inner == 0 ≡ false = eqb-suc-zero inner in cc
inner_closed shallow inner (line ∷ lines) later h closed =
    closes_at (lines ++ later) lines line.position line.word line.part shallow inner (λ less deeper. inner_closed less deeper lines later) h closed

-- and so is each that they open
pub closed_opens_none : (inner : ℕ) (lines later : List BlockLine) → are_closed inner lines ≡ true → open_blocks (lines ++ later) ≡ open_blocks later
closed_opens_none inner [] later closed = refl
closed_opens_none inner (line ∷ lines) later closed =
    leaves_at (lines ++ later) lines line.position line.word line.part inner (open_blocks later) (λ deeper. closed_opens_none deeper lines later)
    (λ deeper. inner_closed 0 deeper lines later) closed

-- the first of some closed lines part nothing before them
pub front_unparted : (lines later : List BlockLine) → are_closed 0 (lines ++ later) ≡ true → PartAlike lines []
front_unparted lines later closed around = rw (zero-add around) at (around_unparted 0 around lines later closed)

-- closed lines among others are as none
pub closed_between : (front lines later : List BlockLine) → are_closed 0 lines ≡ true → open_blocks (front ++ (lines ++ later)) ≡ open_blocks (front ++ later)
closed_between front lines later closed = open_alike_after front (lines ++ later) later without (closed_opens_none 0 lines later closed)
  where
    without : PartAlike (lines ++ later) later
    without around = rw (zero-add around) at (closed_passed 0 around lines later closed)

-- a block that a line opens is closed, and no other is open, if none is open after the lines
none_left_open : (found : Option (List BlockLine)) (blocks : List Block) (with_partings : List BlockLine → Block)
    → cons_option (option_map with_partings found) blocks ≡ [] → (found ≡ None) × (blocks ≡ [])
none_left_open None blocks with_partings none = (refl, none)
none_left_open (Some partings) blocks with_partings none = cc

none_parted : (line : BlockLine) (found : Option (List BlockLine)) → option_map (λ lines. line ∷ lines) found ≡ None → found ≡ None
none_parted line None none = refl
none_parted line (Some partings) none = cc

-- Each of the `inner` blocks that are open before these lines is closed by them.
abbrev CloseInner : ℕ → List BlockLine → Type 0
CloseInner inner lines = (around : ℕ) → around < inner → partings_of around lines ≡ None

-- so it is if it is after a line that opens, closes or parts a block
module _ (lines : List BlockLine) (inner : ℕ) where
  close_opened : partings_of 0 lines ≡ None → ((around : ℕ) → around < inner → partings_of (around + 1) lines ≡ None) → CloseInner (inner + 1) lines
  close_opened first outer zero h = first
  close_opened first outer (suc around) h = rw (← add-one) (outer around (omega arith))

  close_closed : ((around : ℕ) → around < suc inner → (if around == 0 then None else partings_of (around - 1) lines) ≡ None) → CloseInner (suc inner - 1) lines
  close_closed outer around h =
      let back : suc around - 1 ≡ around = omega arith in
      rw (eqb-suc-zero around, back) at (outer (suc around) (omega arith))

  close_parted : (line : BlockLine)
      → ((around : ℕ) → around < inner → (if around == 0 then option_map (λ lines. line ∷ lines) (partings_of 0 lines) else partings_of around lines) ≡ None)
      → CloseInner inner lines
  close_parted line outer zero h = none_parted line (partings_of 0 lines) (outer zero h)
  close_parted line outer (suc around) h = rw (eqb-suc-zero around) at (outer (suc around) h)

module _ (lines rest : List BlockLine) (position : ℕ) (word : Location) where
  beside_at : (p : Part) (inner : ℕ)
      → ((deeper : ℕ) → are_closed deeper (lines ++ rest) ≡ true → open_blocks lines ≡ [] → CloseInner deeper lines → ⊥)
      → are_closed inner (the_line position word p ∷ (lines ++ rest)) ≡ true → open_blocks (the_line position word p ∷ lines) ≡ []
      → CloseInner inner (the_line position word p ∷ lines) → ⊥
  beside_at part.Opens inner further closed none close =
      let (unparted, later) = none_left_open (partings_of 0 lines) (open_blocks lines)
      (λ partings. record { first = the_line position word part.Opens; partings = partings }) none in
      further (inner + 1) closed later (close_opened lines inner unparted close)
  beside_at part.Closes zero further closed none close = cc
  beside_at part.Closes (suc inner) further closed none close =
      further (suc inner - 1) (rw (eqb-suc-zero inner) at closed) none (close_closed lines inner close)
  beside_at _ zero further closed none close = cc
  beside_at p (suc inner) further closed none close =
      further (suc inner) (rw (eqb-suc-zero inner) at closed) none (close_parted lines (suc inner) (the_line position word p) close)

-- No line that parts or closes a block stands among closed lines beside all blocks.
pub none_beside : (inner : ℕ) (front : List BlockLine) (line : BlockLine) (later : List BlockLine) → opens line.part ≡ false
    → are_closed inner (front ++ line ∷ later) ≡ true → open_blocks front ≡ [] → CloseInner inner front → ⊥
none_beside zero [] line later begins closed none close = let outside = rw begins at closed in cc
none_beside (suc inner) [] line later begins closed none close = let wrong : Some [] ≡ None = close 0 (omega arith) in cc
none_beside inner (first ∷ front) line later begins closed none close =
    beside_at front (line ∷ later) first.position first.word first.part inner (λ deeper. none_beside deeper front line later begins) closed none close
