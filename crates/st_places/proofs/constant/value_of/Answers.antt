use Rattle.std.proofs.Common.{◌≡◌, ◌∙◌, Some, Option, ap, sym, refl}
use Rattle.std.specs.Option.{option_copied}
use Rattle.st_meaning.specs.Wholes.{constant_value}
use Rattle.st_places.proofs.Entries.{no_value, value_at, written_initial}
use Rattle.st_scopes.specs.Declarations.{seen}
use Rattle.st_tree.specs.declared.tree.declaration.Initial.{Initial}
use Rattle.st_types.specs.Compositions.{elementary, started}
use Rattle.st_types.specs.Initials.{initial_of, zero_of}
use Rattle.st_types.specs.Names.{Declared, units_of}
use Rattle.st_types.specs.Types.{Shape, elem_of}
use Rattle.st_places.proofs.constant.value_of.Goals as goal

pub returns-in_err-elem : goal.returns-in_err-elem
returns-in_err-elem c =
    c.from_residual.ensures
    ∙ sym (no_value (units_of c.args.tables.now) (seen c.args.declared.now) (ap (λ (s : Shape). elem_of s) (sym c.shape_of.ensures) ∙ sym c.elem.ensures ∙ c.in_err-elem.was))

pub returns-in-Some : goal.returns-in-Some
returns-in-Some c =
    let v : Declared = seen c.args.declared.now in
    c.started_value.ensures
    ∙ ap (λ (i : Initial). constant_value (started (Some i) (elementary (zero_of c.in_ok-elem.elem)))) c.get.ensures
    ∙ ap (λ (i : Option Initial). constant_value (started i (elementary (zero_of c.in_ok-elem.elem)))) (written_initial (units_of c.args.tables.now) v c.in-Some.initial c.in-Some.is)
    ∙ sym (value_at (units_of c.args.tables.now) v c.in_ok-elem.elem (ap (λ (s : Shape). elem_of s) (sym c.shape_of.ensures) ∙ sym c.elem.ensures ∙ c.in_ok-elem.was))

pub returns-in-Some-of : goal.returns-in-Some-of
returns-in-Some-of c =
    let v : Declared = seen c.args.declared.now in
    let initial : option_copied c.of.result ≡ initial_of (units_of c.args.tables.now) v = c.of.ensures v refl c.in_default.is in
    c.started_value-in-Some-of.ensures
    ∙ ap (λ (i : Initial). constant_value (started (Some i) (elementary (zero_of c.in_ok-elem.elem)))) c.initial.ensures
    ∙ ap (λ (i : Option Initial). constant_value (started i (elementary (zero_of c.in_ok-elem.elem)))) (sym (ap option_copied c.in-Some-of.is) ∙ initial)
    ∙ sym (value_at (units_of c.args.tables.now) v c.in_ok-elem.elem (ap (λ (s : Shape). elem_of s) (sym c.shape_of.ensures) ∙ sym c.elem.ensures ∙ c.in_ok-elem.was))

pub returns-in-None : goal.returns-in-None
returns-in-None c =
    let v : Declared = seen c.args.declared.now in
    let initial : option_copied c.of.result ≡ initial_of (units_of c.args.tables.now) v = c.of.ensures v refl c.in_default.is in
    ap (λ (i : Option Initial). constant_value (started i (elementary (zero_of c.in_ok-elem.elem)))) (sym (ap option_copied c.in-None.is) ∙ initial)
    ∙ sym (value_at (units_of c.args.tables.now) v c.in_ok-elem.elem (ap (λ (s : Shape). elem_of s) (sym c.shape_of.ensures) ∙ sym c.elem.ensures ∙ c.in_ok-elem.was))
