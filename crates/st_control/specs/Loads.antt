-- What a text is loaded as.
use Rattle.std.specs.Prelude.{ℕ, ◌≡◌, List, Result, Ok, Err}
use Rattle.st_check.specs.Programs.{ProgramView}
use Rattle.st_control.specs.Controllers.{ControllerView, first_controller}
use Rattle.st_control.specs.Texts.{IsCheckedAs, IsProgramOf}
use Rattle.st_control.specs.declared.refusal.Refusal.{Refusal}

-- what the load of a text answers: a controller, or why there is none
abbrev pub Loaded : Type 0
Loaded = Result ControllerView Refusal

-- the controller is a new one of a program of this name that the text is checked as
abbrev pub IsLoaded : List ℕ → List ℕ → ℕ → ControllerView → Type 0
IsLoaded text main limit c = (program : ProgramView) × IsProgramOf text main program × (c ≡ first_controller program main limit)

-- a text may be loaded as this
abbrev pub Loads : List ℕ → List ℕ → ℕ → Loaded → Type 0
Loads text main limit (Ok c) = IsLoaded text main limit c
Loads text main limit (Err refusal) = IsCheckedAs text main (Err refusal)

-- something holds of what the text is loaded as
abbrev pub OfLoad : List ℕ → List ℕ → ℕ → (Loaded → Type 0) → Type 0
OfLoad text main limit P = (loaded : Loaded) × Loads text main limit loaded × P loaded
