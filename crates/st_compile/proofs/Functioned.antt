-- What is made of a unit as a function, and as a function block.
use Rattle.std.proofs.Common.{◌≡◌, ℕ, true, false, if◌then◌else◌, List, [], length, ap, sym, ◌∙◌}
use Rattle.std.specs.Prelude.{min}
use Rattle.st_values.specs.declared.elem.Elem.{Elem}
use Rattle.st_types.specs.Names.{Named}
use Rattle.st_meaning.specs.Units.{function_at}
use Rattle.st_meaning.specs.declared.start.Start.{Start}
use Rattle.st_code.specs.Code.{Line}
use Rattle.st_machine.specs.Blocks.{BlockView}
use Rattle.st_machine.specs.Functions.{FunctionView}
use Rattle.st_machine.specs.Levels.{no_room}
use Rattle.st_machine.specs.declared.stacks.Room.{Room}
use Rattle.st_places.specs.Functions.{starts_of}
use Rattle.st_places.specs.Parts.{is_small_function}
use Rattle.st_code.specs.Depths.{declared_depth}
use Rattle.st_check.specs.Programs.{level_in}
use Rattle.st_compile.specs.Programs.{block_code, block_level, block_room, block_view, function_view, most_taken, no_function, no_level, own_depth, small_function, types_taken, unit_code}

abbrev viewed : List Line → ℕ → List Elem → List Start → FunctionView
viewed code level inputs starts = record { code = code; level = level; inputs = inputs; starts = starts }

abbrev blocked : List Line → ℕ → BlockView
blocked code level = record { code = code; level = level }

abbrev roomy : ℕ → ℕ → Room
roomy stack variables = record { stack = stack; variables = variables }

module _ (units : List Named) (order : List ℕ) (number : ℕ) (u : Named) where
  pub none_made : is_small_function units u ≡ false → (f : FunctionView) (level : ℕ) → f ≡ record { code = []; level = level; inputs = []; starts = [] } → level ≡ no_level order
      → f ≡ function_view units order number u
  none_made other f level is above =
      is ∙ ap (λ k. viewed [] k [] []) above ∙ sym (ap (λ b. if b then small_function units order number u else no_function order) other)

  pub view_made : is_small_function units u ≡ true → (f : FunctionView) (code : List Line) (level : ℕ) (inputs : List Elem) (starts : List Start)
      → f ≡ record { code = code; level = level; inputs = inputs; starts = starts } → code ≡ unit_code units number u → level ≡ level_in order number
      → inputs ≡ types_taken (function_at units number) → starts ≡ starts_of units u → f ≡ function_view units order number u
  view_made small f code level inputs starts is codes levels types begins =
      is ∙ ap (λ x. viewed x level inputs starts) codes ∙ ap (λ x. viewed (unit_code units number u) x inputs starts) levels
      ∙ ap (λ x. viewed (unit_code units number u) (level_in order number) x starts) types
      ∙ ap (viewed (unit_code units number u) (level_in order number) (types_taken (function_at units number))) begins
      ∙ sym (ap (λ b. if b then small_function units order number u else no_function order) small)

module _ (units : List Named) (number : ℕ) (u : Named) where
  abbrev own_room : Room
  own_room = record { stack = own_depth units number u; variables = length (starts_of units u) }

  pub no_room_made : is_small_function units u ≡ false → (r : Room) → r ≡ no_room → r ≡ (if is_small_function units u then own_room else no_room)
  no_room_made other r is = is ∙ sym (ap (λ b. if b then own_room else no_room) other)

  pub room_made : is_small_function units u ≡ true → (depth variables inputs : ℕ) (code : List Line) → inputs ≡ most_taken units → code ≡ unit_code units number u
      → depth ≡ min (declared_depth inputs u.declares) (length code) → variables ≡ length (starts_of units u)
      → roomy depth variables ≡ (if is_small_function units u then own_room else no_room)
  room_made small depth variables inputs code most codes deep many =
      let stack : depth ≡ own_depth units number u =
      deep ∙ ap (λ k. min (declared_depth k u.declares) (length code)) most ∙ ap (λ ls. min (declared_depth (most_taken units) u.declares) (length ls)) codes in
      ap (λ k. roomy k variables) stack ∙ ap (roomy (own_depth units number u)) many ∙ sym (ap (λ b. if b then own_room else no_room) small)

  -- ---- as a function block

  pub block_made : (order : List ℕ) (b : BlockView) (code : List Line) (level : ℕ) → b ≡ record { code = code; level = level } → code ≡ block_code units number u → level ≡ block_level order number
      → b ≡ block_view units order number u
  block_made order b code level is codes levels = is ∙ ap (λ x. blocked x level) codes ∙ ap (blocked (block_code units number u)) levels

  pub block_room_made : (depth inputs : ℕ) (code : List Line) → inputs ≡ most_taken units → code ≡ block_code units number u → depth ≡ min (declared_depth inputs u.declares) (length code)
      → roomy depth 0 ≡ block_room units number u
  block_room_made depth inputs code most codes deep =
      ap (λ k. roomy k 0) (deep ∙ ap (λ k. min (declared_depth k u.declares) (length code)) most ∙ ap (λ ls. min (declared_depth (most_taken units) u.declares) (length ls)) codes)
