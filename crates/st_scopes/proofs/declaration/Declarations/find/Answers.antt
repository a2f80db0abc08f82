use Rattle.std.proofs.Common.{◌≡◌, ℕ, List, sym, ◌∙◌, ap}
use Rattle.std.specs.List.{slice_get}
use Rattle.std.specs.Option.{option_and_then, option_map}
use Rattle.st_types.specs.Tables.{first_of}
use Rattle.st_scopes.specs.Declarations.{names_seen, seen}
use Rattle.st_types.specs.Names.{declared_named}
use Rattle.st_scopes.proofs.DeclaredNames.{named_at}
use Rattle.st_scopes.proofs.declaration.Declarations.find.Goals.{After-find}
use Rattle.st_scopes.proofs.declaration.Declarations.find.Goals as goal

-- what stands at the place of the name
found : (c : After-find) → option_and_then (slice_get c.args.self.now) c.find.result ≡ declared_named c.args.self.now c.args.name.now
found c =
    rw (← c.self.view_is) (ap (option_and_then (slice_get (names_seen c.self.inside))) (c.find.ensures.number ∙ ap (λ (names : List (List ℕ)). first_of names c.args.name.now) c.self.invariant.names)
    ∙ named_at (names_seen c.self.inside) c.args.name.now)

pub returns-in_err-find : goal.returns-in_err-find
returns-in_err-find c =
    ap (option_map seen) c.from_residual.ensures ∙ (ap (option_and_then (slice_get c.args.self.now)) (sym c.in_err-find.was) ∙ found (goal.at-returns-in_err-find c).After-find)

pub returns : goal.returns
returns c = c.at.ensures ∙ (ap (option_and_then (slice_get c.args.self.now)) (sym c.in_ok-find.was) ∙ found (goal.at-returns c).After-find)
