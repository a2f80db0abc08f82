-- The variables of functions, one after the other.
use Rattle.std.proofs.Common.{◌≡◌, ℕ, Bool, true, false, if◌then◌else◌, List, [], ◌∷◌, ◌++◌, append_assoc, append-nil, map, length, Option, Some, None, refl, ap, sym, ◌∙◌}
use Rattle.std.proofs.lemmas.List.{length-map, map-append}
use Rattle.st_values.specs.declared.elem.Elem.{Elem}
use Rattle.st_values.specs.declared.value.Value.{Value}
use Rattle.st_tree.specs.declared.tree.declaration.VarKind.{VarKind}
use Rattle.st_tree.specs.declared.tree.declaration.VarKind.TheVariants as var_kinds
use Rattle.st_types.specs.Compositions.{Composition, unknown, elementary, array, composed, standard, Members, none, member, declared_composition}
use Rattle.st_types.specs.Initials.{zero_of}
use Rattle.st_types.specs.Names.{Declared, Named}
use Rattle.st_meaning.specs.Units.{input_in, inputs_in, with_input}
use Rattle.st_meaning.specs.Wholes.{Input, constant_value}
use Rattle.st_meaning.specs.declared.start.Start.{Start}
use Rattle.st_meaning.specs.declared.start.Start.TheVariants as beginnings
use Rattle.st_tree.specs.Kinds.{is_input, is_constant}
use Rattle.st_places.specs.Callables.{HasVariables, declared_members, own_start, own_starts}
use Rattle.st_places.specs.Members.{value_declared}
use Rattle.st_places.specs.Parts.{inside}
use Rattle.st_places.specs.declared.function.Variables.{Variables}

-- ---- which are inputs

no_value_no_input : (name : List ℕ) (kind : VarKind) (c : Composition) → constant_value c ≡ None → input_in name kind c ≡ None
no_value_no_input name var_kinds.Input unknown is = refl
no_value_no_input name var_kinds.Input (elementary v) is = absurd (cc)
no_value_no_input name var_kinds.Input (array ranges firsts c) is = refl
no_value_no_input name var_kinds.Input (composed whole ms chart) is = refl
no_value_no_input name var_kinds.Input (standard b) is = refl
no_value_no_input name var_kinds.Internal c is = refl
no_value_no_input name var_kinds.Constant c is = refl
no_value_no_input name var_kinds.Output c is = refl

other_no_input : (name : List ℕ) (kind : VarKind) (c : Composition) → is_input kind ≡ false → input_in name kind c ≡ None
other_no_input name var_kinds.Input c is = absurd (cc)
other_no_input name var_kinds.Internal c is = refl
other_no_input name var_kinds.Constant c is = refl
other_no_input name var_kinds.Output c is = refl

value_input : (name : List ℕ) (kind : VarKind) (c : Composition) (x : Value) → is_input kind ≡ true → constant_value c ≡ Some x
    → input_in name kind c ≡ Some (record { name = name; initial = x })
value_input name var_kinds.Internal c x is value = absurd (cc)
value_input name var_kinds.Constant c x is value = absurd (cc)
value_input name var_kinds.Output c x is value = absurd (cc)
value_input name var_kinds.Input unknown x is value = absurd (cc)
value_input name var_kinds.Input (elementary v) x is value = let same : v ≡ x = cc in ap (λ (y : Value). Some (record { name = name; initial = y })) same
value_input name var_kinds.Input (array ranges firsts c) x is value = absurd (cc)
value_input name var_kinds.Input (composed whole ms chart) x is value = absurd (cc)
value_input name var_kinds.Input (standard b) x is value = absurd (cc)

-- ---- one more

with_more : (o : Option Input) (more xs ys : List Input) → more ≡ xs ++ ys → with_input o more ≡ with_input o xs ++ ys
with_more None more xs ys is = is
with_more (Some i) more xs ys is = ap (λ (zs : List Input). i ∷ zs) is

starts_more : (first more xs ys : List Start) → more ≡ xs ++ ys → first ++ more ≡ (first ++ xs) ++ ys
starts_more first more xs ys is = ap (λ (zs : List Start). first ++ zs) is ∙ sym (append_assoc first xs ys)

inputs_next : (b : Bool) (name : List ℕ) (kind : VarKind) (c : Composition) (more ms last : Members) → inputs_in more ≡ inputs_in ms ++ inputs_in last
    → inputs_in (if b then more else member name kind c more) ≡ inputs_in (if b then ms else member name kind c ms) ++ inputs_in last
inputs_next true name kind c more ms last is = is
inputs_next false name kind c more ms last is = with_more (input_in name kind c) (inputs_in more) (inputs_in ms) (inputs_in last) is

own_next : (b : Bool) (name : List ℕ) (kind : VarKind) (c : Composition) (more ms last : Members) → own_starts more ≡ own_starts ms ++ own_starts last
    → own_starts (if b then more else member name kind c more) ≡ own_starts (if b then ms else member name kind c ms) ++ own_starts last
own_next true name kind c more ms last is = is
own_next false name kind c more ms last is = starts_more (own_start (input_in name kind c) (constant_value c)) (own_starts more) (own_starts ms) (own_starts last) is

module _ (units : List Named) where
  abbrev declared : Declared → Composition
  declared v = declared_composition units (inside units) v

  inputs_last : (vs : List Declared) (v : Declared)
      → inputs_in (declared_members units (vs ++ v ∷ [])) ≡ inputs_in (declared_members units vs) ++ inputs_in (declared_members units (v ∷ []))
  inputs_last [] v = refl
  inputs_last (w ∷ vs) v =
      inputs_next (is_constant w.kind) w.name.spelling w.kind (declared w) (declared_members units (vs ++ v ∷ [])) (declared_members units vs) (declared_members units (v ∷ [])) (inputs_last vs v)

  own_last : (vs : List Declared) (v : Declared)
      → own_starts (declared_members units (vs ++ v ∷ [])) ≡ own_starts (declared_members units vs) ++ own_starts (declared_members units (v ∷ []))
  own_last [] v = refl
  own_last (w ∷ vs) v =
      own_next (is_constant w.kind) w.name.spelling w.kind (declared w) (declared_members units (vs ++ v ∷ [])) (declared_members units vs) (declared_members units (v ∷ [])) (own_last vs v)

  -- with the inputs and the starts of what comes last
  has_last : (e : Elem) (vs : List Declared) (v : Declared) (old new : Variables) (is : List Input) (starts : List Start) → inputs_in (declared_members units (v ∷ [])) ≡ is
      → own_starts (declared_members units (v ∷ [])) ≡ starts → new.names ≡ old.names ++ map (λ (i : Input). i.name) is → new.initials ≡ old.initials ++ map (λ (i : Input). i.initial) is
      → new.starts ≡ old.starts ++ starts → HasVariables units e vs old → HasVariables units e (vs ++ v ∷ []) new
  has_last e vs v old new is starts inputs begin names initials started has =
      let all : inputs_in (declared_members units (vs ++ v ∷ [])) ≡ inputs_in (declared_members units vs) ++ is =
      inputs_last vs v ∙ ap (λ (more : List Input). inputs_in (declared_members units vs) ++ more) inputs in
      record {
        names =
            names ∙ ap (λ (ns : List (List ℕ)). ns ++ map (λ (i : Input). i.name) is) has.names
            ∙ sym (ap (map (λ (i : Input). i.name)) all ∙ map-append (λ (i : Input). i.name) (inputs_in (declared_members units vs)) is);
        initials =
            initials ∙ ap (λ (ns : List Value). ns ++ map (λ (i : Input). i.initial) is) has.initials
            ∙ sym (ap (map (λ (i : Input). i.initial)) all ∙ map-append (λ (i : Input). i.initial) (inputs_in (declared_members units vs)) is);
        starts =
            started ∙ ap (λ (ss : List Start). ss ++ starts) has.starts
            ∙ ap (λ (ss : List Start). beginnings.Value (zero_of e) ∷ ss)
            (ap (λ (more : List Start). own_starts (declared_members units vs) ++ more) (sym begin) ∙ sym (own_last vs v));
      }

  -- what is declared last
  last_inputs : (v : Declared) → is_constant v.kind ≡ false → inputs_in (declared_members units (v ∷ [])) ≡ with_input (input_in v.name.spelling v.kind (declared v)) []
  last_inputs v is = ap (λ (b : Bool). inputs_in (if b then none else member v.name.spelling v.kind (declared v) none)) is

  last_starts : (v : Declared) → is_constant v.kind ≡ false → own_starts (declared_members units (v ∷ [])) ≡ own_start (input_in v.name.spelling v.kind (declared v)) (value_declared units v) ++ []
  last_starts v is = ap (λ (b : Bool). own_starts (if b then none else member v.name.spelling v.kind (declared v) none)) is

  module _ (e : Elem) (vs : List Declared) (v : Declared) (old new : Variables) where
    pub constant_last : is_constant v.kind ≡ true → new ≡ old → HasVariables units e vs old → HasVariables units e (vs ++ v ∷ []) new
    constant_last is same has =
        has_last e vs v old new [] [] (ap (λ (b : Bool). inputs_in (if b then none else member v.name.spelling v.kind (declared v) none)) is)
        (ap (λ (b : Bool). own_starts (if b then none else member v.name.spelling v.kind (declared v) none)) is) (ap Variables.names same ∙ sym (append-nil old.names))
        (ap Variables.initials same ∙ sym (append-nil old.initials)) (ap Variables.starts same ∙ sym (append-nil old.starts)) has

    pub no_value_last : is_constant v.kind ≡ false → value_declared units v ≡ None → new ≡ old → HasVariables units e vs old → HasVariables units e (vs ++ v ∷ []) new
    no_value_last is none' same has =
        let no_input : input_in v.name.spelling v.kind (declared v) ≡ None = no_value_no_input v.name.spelling v.kind (declared v) none' in
        has_last e vs v old new [] [] (last_inputs v is ∙ ap (λ (o : Option Input). with_input o []) no_input)
        (last_starts v is ∙ ap (λ (o : Option Input). own_start o (value_declared units v) ++ []) no_input ∙ ap (λ (x : Option Value). own_start None x ++ []) none')
        (ap Variables.names same ∙ sym (append-nil old.names)) (ap Variables.initials same ∙ sym (append-nil old.initials)) (ap Variables.starts same ∙ sym (append-nil old.starts)) has

    pub value_last : (x : Value) → is_constant v.kind ≡ false → value_declared units v ≡ Some x → is_input v.kind ≡ false → new.names ≡ old.names → new.initials ≡ old.initials
        → new.starts ≡ old.starts ++ beginnings.Value x ∷ [] → HasVariables units e vs old → HasVariables units e (vs ++ v ∷ []) new
    value_last x is value other names initials starts has =
        let no_input : input_in v.name.spelling v.kind (declared v) ≡ None = other_no_input v.name.spelling v.kind (declared v) other in
        has_last e vs v old new [] (beginnings.Value x ∷ []) (last_inputs v is ∙ ap (λ (o : Option Input). with_input o []) no_input)
        (last_starts v is ∙ ap (λ (o : Option Input). own_start o (value_declared units v) ++ []) no_input ∙ ap (λ (y : Option Value). own_start None y ++ []) value)
        (names ∙ sym (append-nil old.names)) (initials ∙ sym (append-nil old.initials)) starts has

    pub input_last : (x : Value) → is_constant v.kind ≡ false → value_declared units v ≡ Some x → is_input v.kind ≡ true → new.names ≡ old.names ++ v.name.spelling ∷ []
        → new.initials ≡ old.initials ++ x ∷ [] → new.starts ≡ old.starts ++ beginnings.Input ∷ [] → HasVariables units e vs old → HasVariables units e (vs ++ v ∷ []) new
    input_last x is value input names initials starts has =
        let i : Input = record { name = v.name.spelling; initial = x } in
        let own : input_in v.name.spelling v.kind (declared v) ≡ Some i = value_input v.name.spelling v.kind (declared v) x input value in
        has_last e vs v old new (i ∷ []) (beginnings.Input ∷ []) (last_inputs v is ∙ ap (λ (o : Option Input). with_input o []) own)
        (last_starts v is ∙ ap (λ (o : Option Input). own_start o (value_declared units v) ++ []) own) names initials starts has

  -- as many names as values
  pub equal_lengths : (e : Elem) (vs : List Declared) (all : Variables) → HasVariables units e vs all → length all.names ≡ length all.initials
  equal_lengths e vs all has =
      ap length has.names ∙ length-map (inputs_in (declared_members units vs)) (λ (i : Input). i.name) ∙ sym (length-map (inputs_in (declared_members units vs)) (λ (i : Input). i.initial))
      ∙ sym (ap length has.initials)
