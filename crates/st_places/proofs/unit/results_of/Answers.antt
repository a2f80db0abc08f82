use Rattle.std.proofs.Common.{◌≡◌, [], ap, subst, sym, inl, inr}
use Rattle.st_places.specs.Members.{HasMembers}
use Rattle.st_places.specs.Parts.{result_names}
use Rattle.st_types.specs.Inside.{declared_by}
use Rattle.st_places.proofs.unit.results_of.Goals as goal

pub returns-in_ok-add_result-in-Function : goal.returns-in_ok-add_result-in-Function
returns-in_ok-add_result-in-Function c = λ units.
    subst (λ k. HasMembers units (result_names (declared_by k)) c.add_result.new.self) (sym c.in-Function.is)
    (c.in_ok-add_result-in-Function.ensures units [] (c.new-members.ensures units))

pub returns-in-Type : goal.returns-in-Type
returns-in-Type c = λ units.
    let none : result_names (declared_by c.args.unit.now.kind) ≡ [] =
    elim c.in-Type.is as (λ _. result_names (declared_by c.args.unit.now.kind) ≡ []) [
      | inl of_type ↦ ap (λ k. result_names (declared_by k)) of_type.1
      | inr other ↦ elim other as (λ _. result_names (declared_by c.args.unit.now.kind) ≡ []) [
        | inl of_block ↦ ap (λ k. result_names (declared_by k)) of_block.1
        | inr of_program ↦ ap (λ k. result_names (declared_by k)) of_program.1
      ]
    ] in
    subst (λ vs. HasMembers units vs c.new-members.result) (sym none) (c.new-members.ensures units)
