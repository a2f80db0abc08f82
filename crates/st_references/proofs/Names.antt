-- The names of types in declarations, by declaration.
use Rattle.std.proofs.Common.{◌≡◌, ◌∙◌, List, [], ◌∷◌, ◌++◌, refl, ap}
use Rattle.std.proofs.lemmas.Grind.{flat_map-append}
use Rattle.std.proofs.lemmas.List.Folds.{flat_map-map}
use Rattle.std.specs.List.{flat_map}
use Rattle.st_tree.specs.declared.tree.declaration.Declaration.{Declaration}
use Rattle.st_tree.specs.declared.tree.declaration.VarBlock.{VarBlock}
use Rattle.st_tree.specs.declared.tree.declaration.VarKind.{VarKind}
use Rattle.st_types.specs.Names.{declared_in, variables_of}
use Rattle.st_references.specs.Contained.{block_names, declaration_names}
use Rattle.st_references.specs.References.{declared_names}

-- what each gives of what each gives
pub flat_map-flat_map : {A B C : Type 0} (f : B → List C) (g : A → List B) (xs : List A)
    → flat_map f (flat_map g xs) ≡ flat_map (λ x. flat_map f (g x)) xs
flat_map-flat_map f g [] = refl
flat_map-flat_map f g (x ∷ xs) = flat_map-append f (g x) (flat_map g xs) ∙ ap (λ ys. flat_map f (g x) ++ ys) (flat_map-flat_map f g xs)

declaration_names_are : (kind : VarKind) (d : Declaration) → flat_map declared_names (declared_in kind d) ≡ declaration_names d
declaration_names_are kind d = flat_map-map declared_names (λ n. record { name = n; kind = kind; specification = d.specification; initial = d.initial }) d.names

pub members_names_are : (kind : VarKind) (ds : List Declaration) → flat_map declared_names (flat_map (declared_in kind) ds) ≡ flat_map declaration_names ds
members_names_are kind ds =
    flat_map-flat_map declared_names (declared_in kind) ds ∙ ap (λ f. flat_map f ds) (λ i d. declaration_names_are kind d i)

pub block_names_are : (bs : List VarBlock) → flat_map declared_names (variables_of bs) ≡ flat_map block_names bs
block_names_are bs =
    flat_map-flat_map declared_names (λ b. flat_map (declared_in b.kind) b.declarations) bs
    ∙ ap (λ f. flat_map f bs) (λ i b. members_names_are b.kind b.declarations i)
