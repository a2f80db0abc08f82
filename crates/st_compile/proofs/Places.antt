-- The way through the parts of a variable: where no fault is found, it leads on both sides to the same.
use Rattle.std.proofs.Common.{◌≡◌, ℕ, ◌==◌, Bool, true, false, ◌||◌, not, if◌then◌else◌, List, [], ◌∷◌, ◌++◌, map, length, Option, Some, None, is_some, refl, sym, ap, ◌∙◌, subst, arith}
use Rattle.std.proofs.lemmas.Bool.Decides.{Decides-eqb}
use Rattle.std.proofs.lemmas.List.{length-map}
use Rattle.st_values.specs.declared.elem.Elem.{Elem}
use Rattle.st_tree.specs.declared.tree.expression.Argument.TheOpen.{Part-F}
use Rattle.st_tree.specs.declared.tree.expression.Expression.{Expression}
use Rattle.st_tree.specs.declared.tree.expression.Part.{Part, roll-Part}
use Rattle.st_tree.specs.declared.tree.position.Identifier.{Identifier}
use Rattle.st_tree.specs.declared.tree.position.Position.{Position}
use Rattle.st_faults.specs.Faults.{fault, when}
use Rattle.st_faults.specs.declared.fault.Rule.TheVariants as rules
use Rattle.st_types.specs.Compositions.{Composition}
use Rattle.st_operators.specs.Operators.{is_integer}
use Rattle.st_types.specs.OwnTypes.{or_lint}
use Rattle.st_types.specs.Scopes.{Scope}
use Rattle.st_types.specs.Types.{Elements, is_unknown, plain}
use Rattle.st_types.specs.declared.base.Base.TheVariants as bases
use Rattle.st_types.specs.declared.symbol.Symbol.{Symbol}
use Rattle.st_leaves.specs.Selected.{element_of, selected_by, takes_subscripts, value_type}
use Rattle.st_check_expressions.specs.Known.{alone, faults_alone}
use Rattle.st_check_expressions.specs.Variables.{PartKnown, element_faults, element_route, entered, entered_by, field_faults, field_route, lost, member_of, part_faults, parts_faults, route, select, select_all, shape_elements, subscripts_faults}
use Rattle.st_check_expressions.specs.Variables as variables
use Rattle.st_check_expressions.specs.Walk.{known, known_expressions}
use Rattle.st_check_expressions.specs.declared.route.Route.{Route}
use Rattle.st_check.proofs.Apart.{nothing_parts}
use Rattle.st_meaning.specs.Terms.{Parts, field_part, element_part, how_many}
use Rattle.st_meaning.specs.Typing.{terms_of, through, typed}
use Rattle.st_meaning.specs.Wholes.{Whole, type_of}
use Rattle.st_compile.specs.Terms.{AreParts, no_part, field, element, AreSubscripts, no_subscript, subscript, IsTerm}
use Rattle.st_compile.specs.Ties.{IsMadeOf, Ties}
use Rattle.st_compile.proofs.Chains.{Fits, holds}
use Rattle.st_compile.proofs.Made.{made_elements, made_known, made_members, made_takes}

-- ---- subscripts

pub either_true : (a b : Bool) → (a || b) ≡ true → b ≡ false → a ≡ true
either_true true b h q = refl
either_true false b h q = absurd (let e : true ≡ false = sym h ∙ q in cc)

pub or_true : (a b : Bool) → (a || b) ≡ true → a ≡ false → b ≡ true
or_true true b h q = cc
or_true false b h q = h

module _ (scope : Scope) (w : Whole) where
  abbrev pub EachFits : List Expression → Type 0
  EachFits [] = Unit {0}
  EachFits (x ∷ xs) = Fits w x (known scope x) (typed w x) × EachFits xs

  pub subscripts_fit : (xs : List Expression) → EachFits xs → subscripts_faults (known_expressions scope xs) ≡ [] → AreSubscripts w xs (terms_of (map (typed w) xs))
  subscripts_fit [] fits h = no_subscript
  subscripts_fit (x ∷ xs) fits h =
      let k = known scope x in
      let broken = when (not (is_integer (alone k) || k.fits_all)) (fault k.position rules.TypeMismatch) in
      let parts = nothing_parts (faults_alone k ++ broken) (subscripts_faults (known_expressions scope xs)) h in
      let own = nothing_parts (faults_alone k) broken parts.0 in
      let is = fits.0 k.position (alone k) own.0 in
      let whole_number = either_true (is_integer (alone k)) k.fits_all (holds (is_integer (alone k) || k.fits_all) (fault k.position rules.TypeMismatch) own.1) is.known in
      let same : alone k ≡ or_lint (typed w x).own = ap or_lint is.own in
      subscript (subst (λ (e : Elem). is_integer e ≡ true) same whole_number) (subst (λ (e : Elem). IsTerm w e x ((typed w x).as_type e)) same is.term) (subscripts_fit xs fits.1 parts.1)

  as_many : (xs : List Expression) → how_many (terms_of (map (typed w) xs)) ≡ length xs
  as_many [] = refl
  as_many (x ∷ xs) = omega (arith, as_many xs)

  -- ---- parts: what is known of one, and what it puts before the further ones

  pub data PartFits : Part → PartKnown → (Parts → Parts) → Type 0 where
    field_fits : (n : Identifier) → PartFits (roll-Part (Part-F.Field n)) (variables.field n) (λ ps. field_part n.spelling ps)
    subscripts_fits : (position : Position) (xs : List Expression)
        → (subscripts_faults (known_expressions scope xs) ≡ [] → AreSubscripts w xs (terms_of (map (typed w) xs)))
        → PartFits (roll-Part (Part-F.Subscripts position xs)) (variables.subscripts position (known_expressions scope xs)) (λ ps. element_part position.line (terms_of (map (typed w) xs)) ps)

  pub data PartsFit : List Part → List PartKnown → List (Parts → Parts) → Type 0 where
    no_parts_fit : PartsFit [] [] []
    more_parts_fit : {p : Part} {k : PartKnown} {f : Parts → Parts} {parts : List Part} {ks : List PartKnown} {fs : List (Parts → Parts)} → PartFits p k f → PartsFit parts ks fs
        → PartsFit (p ∷ parts) (k ∷ ks) (f ∷ fs)

  -- ---- the way

  pub record Reached (parts : List Part) (c : Composition) (ps : Parts) (r : Route) : Type 0 where
    pub parts_are : AreParts w parts ps
    pub at : Composition
    pub is_made : IsMadeOf scope r.shape at
    pub type : type_of c ps ≡ value_type at

  field_reached : (n : Identifier) (parts : List Part) (ks : List PartKnown) (ps : Parts) (r : Route) (c : Composition)
      → IsMadeOf scope r.shape c → field_faults scope r n ≡ []
      → ((next : Route) → field_route scope r n ≡ next → IsMadeOf scope next.shape (selected_by c n.spelling) → Reached parts (selected_by c n.spelling) ps (select_all scope next ks))
      → Reached (roll-Part (Part-F.Field n) ∷ parts) c (field_part n.spelling ps) (select_all scope (field_route scope r n) ks)
  field_reached n parts ks ps r c is h rest = by (member_of scope r.shape n.spelling).symbol refl where
    by : (found : Option Symbol) → (member_of scope r.shape n.spelling).symbol ≡ found
        → Reached (roll-Part (Part-F.Field n) ∷ parts) c (field_part n.spelling ps) (select_all scope (field_route scope r n) ks)
    by None q =
        let m = member_of scope r.shape n.spelling in
        let there = or_true (is_unknown r.shape.base) (is_some m.symbol) (holds (is_unknown r.shape.base || is_some m.symbol) (fault n.position rules.UnknownName) h) (made_known scope r.shape c is) in
        absurd (let e : false ≡ true = sym (ap is_some q) ∙ there in cc)
    by (Some s) q =
        let m = member_of scope r.shape n.spelling in
        let next = route s.shape (r.through || m.of_instance) in
        let leads : field_route scope r n ≡ next = ap (λ (b : Bool). if b then r else entered_by r.through m) (made_known scope r.shape c is) ∙ ap (entered r.through m) q in
        let behind = rest next leads (made_members scope r.shape c is n.spelling s q) in
        let all : Reached (roll-Part (Part-F.Field n) ∷ parts) c (field_part n.spelling ps) (select_all scope next ks) = record {
          parts_are = field n behind.parts_are;
          at = behind.at;
          is_made = behind.is_made;
          type = behind.type;
        } in
        subst (λ (z : Route). Reached (roll-Part (Part-F.Field n) ∷ parts) c (field_part n.spelling ps) (select_all scope z ks)) (sym leads) all

  element_reached : (position : Position) (xs : List Expression) (parts : List Part) (ks : List PartKnown) (ps : Parts) (r : Route) (c : Composition)
      → IsMadeOf scope r.shape c → element_faults (is_unknown r.shape.base) position (length (known_expressions scope xs)) (shape_elements scope r.shape) ≡ []
      → AreSubscripts w xs (terms_of (map (typed w) xs))
      → ((next : Route) → element_route r.through (length (known_expressions scope xs)) (shape_elements scope r.shape) ≡ next → IsMadeOf scope next.shape (element_of c) → Reached parts (element_of c) ps (select_all scope next ks))
      → Reached (roll-Part (Part-F.Subscripts position xs) ∷ parts) c (element_part position.line (terms_of (map (typed w) xs)) ps)
      (select_all scope (element_route r.through (length (known_expressions scope xs)) (shape_elements scope r.shape)) ks)
  element_reached position xs parts ks ps r c is h subscripts rest = by (shape_elements scope r.shape) refl h where
    by : (found : Option Elements) → shape_elements scope r.shape ≡ found → element_faults (is_unknown r.shape.base) position (length (known_expressions scope xs)) found ≡ []
        → Reached (roll-Part (Part-F.Subscripts position xs) ∷ parts) c (element_part position.line (terms_of (map (typed w) xs)) ps)
        (select_all scope (element_route r.through (length (known_expressions scope xs)) (shape_elements scope r.shape)) ks)
    by None q h =
        let unknown = holds (is_unknown r.shape.base) (fault position rules.TypeMismatch) h in
        absurd (let e : false ≡ true = sym (made_known scope r.shape c is) ∙ unknown in cc)
    by (Some elements) q h =
        let count = length (known_expressions scope xs) in
        let ts = terms_of (map (typed w) xs) in
        let many = holds (length elements.subscripts == count) (fault position rules.TypeMismatch) h in
        let equal : length elements.subscripts ≡ count = (Decides-eqb (length elements.subscripts) count).0 many in
        let next = route (plain elements.element) r.through in
        let leads : element_route r.through count (shape_elements scope r.shape) ≡ next =
        ap (element_route r.through count) q ∙ ap (λ (b : Bool). if b then next else lost r.through) many in
        let behind = rest next leads (made_elements scope r.shape c is elements q) in
        let same : length elements.subscripts ≡ how_many ts = equal ∙ length-map xs (known scope) ∙ sym (as_many xs) in
        let takes : takes_subscripts c (how_many ts) ≡ true = subst (λ (n : ℕ). takes_subscripts c n ≡ true) same (made_takes scope r.shape c is elements q) in
        let all : Reached (roll-Part (Part-F.Subscripts position xs) ∷ parts) c (element_part position.line ts ps) (select_all scope next ks) = record {
          parts_are = element position subscripts behind.parts_are;
          at = behind.at;
          is_made = behind.is_made;
          type = ap (λ (b : Bool). if b then type_of (element_of c) ps else None) takes ∙ behind.type;
        } in
        subst (λ (z : Route). Reached (roll-Part (Part-F.Subscripts position xs) ∷ parts) c (element_part position.line ts ps) (select_all scope z ks)) (sym leads) all

  pub way : (parts : List Part) (ks : List PartKnown) (fs : List (Parts → Parts)) → PartsFit parts ks fs → (r : Route) (c : Composition) → IsMadeOf scope r.shape c
      → parts_faults scope r ks ≡ [] → Reached parts c (through fs) (select_all scope r ks)
  way parts ks fs no_parts_fit r c is h = record { parts_are = no_part; at = c; is_made = is; type = refl }
  way parts ks fs (more_parts_fit {parts = others} {ks = ls} {fs = gs} (field_fits n) fit) r c is h =
      let both = nothing_parts (field_faults scope r n) (parts_faults scope (field_route scope r n) ls) h in
      field_reached n others ls (through gs) r c is both.0
      (λ next leads within. way others ls gs fit next (selected_by c n.spelling) within (subst (λ (z : Route). parts_faults scope z ls ≡ []) leads both.1))
  way parts ks fs (more_parts_fit {parts = others} {ks = ls} {fs = gs} (subscripts_fits position xs subscripts) fit) r c is h =
      let count = length (known_expressions scope xs) in
      let next = element_route r.through count (shape_elements scope r.shape) in
      let own = element_faults (is_unknown r.shape.base) position count (shape_elements scope r.shape) in
      let both = nothing_parts (own ++ subscripts_faults (known_expressions scope xs)) (parts_faults scope next ls) h in
      let here = nothing_parts own (subscripts_faults (known_expressions scope xs)) both.0 in
      element_reached position xs others ls (through gs) r c is here.0 (subscripts here.1)
      (λ next leads within. way others ls gs fit next (element_of c) within (subst (λ (z : Route). parts_faults scope z ls ≡ []) leads both.1))

  -- ---- what is one value has no parts

  pub elementary_whole : Ties scope w → (e : Elem) (through : Bool) (ks : List PartKnown) → parts_faults scope (route (plain (bases.Elementary e)) through) ks ≡ [] → ks ≡ []
  elementary_whole ties e through [] h = refl
  elementary_whole ties e through (variables.field n ∷ ks) h =
      let r = route (plain (bases.Elementary e)) through in
      let both = nothing_parts (field_faults scope r n) (parts_faults scope (field_route scope r n) ks) h in
      let there = holds (is_some (scope.member (bases.Elementary e) n.spelling).symbol) (fault n.position rules.UnknownName) both.0 in
      absurd (let q : false ≡ true = sym (ap is_some (ties.no_members e n.spelling)) ∙ there in cc)
  elementary_whole ties e through (variables.subscripts position xs ∷ ks) h =
      let r = route (plain (bases.Elementary e)) through in
      let own = element_faults false position (length xs) (scope.elements (bases.Elementary e)) in
      let both = nothing_parts (own ++ subscripts_faults xs) (parts_faults scope (select scope r (variables.subscripts position xs)) ks) h in
      let here = nothing_parts own (subscripts_faults xs) both.0 in
      let none = subst (λ (found : Option Elements). element_faults false position (length xs) found ≡ []) (ties.no_elements e) here.0 in
      absurd (cc)
