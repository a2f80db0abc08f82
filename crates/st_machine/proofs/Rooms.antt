-- The rooms of levels.
use Rattle.std.proofs.Common.{◌≡◌, ℕ, zero, suc, ◌<◌, List, [], ◌∷◌, ◌++◌, length, get_or, take, refl, sym, ap, ◌∙◌, arith, length-append}
use Rattle.std.specs.Prelude.{slice_index_or}
use Rattle.st_machine.specs.Levels.{LevelView, no_room, rooms_of}
use Rattle.st_machine.specs.declared.stacks.Room.{Room}

-- the room of one level
abbrev pub room_of : LevelView → Room
room_of l = record { stack = l.stack.1; variables = length l.variables }

pub rooms_many : (levels : List LevelView) → length (rooms_of levels) ≡ length levels
rooms_many [] = refl
rooms_many (l ∷ levels) = ap suc (rooms_many levels)

-- of the first behind so many others
room_at : (lower upper : List LevelView) (level : ℕ) (d : LevelView) → level ≡ length lower → 0 < length upper
    → get_or (rooms_of (lower ++ upper)) level no_room ≡ room_of (slice_index_or upper 0 d)
room_at [] [] level d same some = absurd (omega (arith, some))
room_at [] (l ∷ upper) level d same some = ap (λ n. get_or (rooms_of (l ∷ upper)) n no_room) same
room_at (l ∷ lower) upper zero d same some = cc
room_at (l ∷ lower) upper (suc level) d same some = room_at lower upper level d (omega (arith, same)) some

rooms_taken : (lower upper : List LevelView) (level : ℕ) → level ≡ length lower → rooms_of lower ≡ take level (rooms_of (lower ++ upper))
rooms_taken [] upper level same = sym (ap (λ n. take n (rooms_of upper)) same)
rooms_taken (l ∷ lower) upper zero same = cc
rooms_taken (l ∷ lower) upper (suc level) same = ap (λ (rs : List Room). room_of l ∷ rs) (rooms_taken lower upper level (omega (arith, same)))

-- ---- levels in two parts

module _ (levels lower upper : List LevelView) (level : ℕ) (parts : levels ≡ lower ++ upper) (front : length lower ≡ level) where
  -- the lower ones
  pub rooms_below : rooms_of lower ≡ take level (rooms_of levels)
  rooms_below = rooms_taken lower upper level (sym front) ∙ ap (λ ls. take level (rooms_of ls)) (sym parts)

  -- and the one above them
  pub room_there : level < length (rooms_of levels) → (d : LevelView) → room_of (slice_index_or upper 0 d) ≡ get_or (rooms_of levels) level no_room
  room_there h d =
      let some : 0 < length upper = omega (arith, h, front, rooms_many levels, ap length parts, length-append lower upper) in
      sym (ap (λ ls. get_or (rooms_of ls) level no_room) parts ∙ room_at lower upper level d (sym front) some)
