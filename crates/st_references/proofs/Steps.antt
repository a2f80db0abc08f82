-- Turns of the loop that walks in depth.
use Rattle.std.proofs.Common.{◌≡◌, ℕ, ◌<◌, ◌≤◌, List, [], ◌∷◌, ◌++◌, Bool, true, false, length, get_or, set, refl, ap, sym, ◌∙◌, subst, arith}
use Rattle.std.specs.Prelude.{Some}
use Rattle.std.specs.List.{All, Contains}
use Rattle.std.proofs.lemmas.List.{get_or_default, map-append}
use Rattle.std.proofs.lemmas.List.Elements.{All-nil, All-pop, All-push, Contains-get_or}
use Rattle.std.proofs.lemmas.List.Sums.{sum_by_push}
use Rattle.st_references.specs.Graphs.{Graph, references, IsRow, IsClosed}
use Rattle.st_references.specs.Walks.{IsSeen, IsWalk}
use Rattle.st_references.specs.declared.walk.Visit.{Visit}
use Rattle.st_references.proofs.Listed.{Contains-nil}
use Rattle.st_references.proofs.Marks.{mark_read, set_sees, set_keeps}
use Rattle.st_references.proofs.Visits.{rows_of, visit_of, next_of, IsFollowed, Keeps, follows_keeps, followed_keeps, not_followed, one_followed, all_followed, work_on, work, work_ahead-set}
use Rattle.st_references.proofs.Walking.{entered, path_reaches, left}

-- a walk from a row, where these rows were seen before
pub record IsWalkFrom (graph : Graph) (from : ℕ) (before : List Bool) (path : List Visit) (seen : List Bool) (order : List ℕ) : Type 0 where
  pub walk : IsWalk graph (rows_of path) seen order
  pub followed : All (IsFollowed graph seen) path
  pub begins : IsSeen seen from
  pub keeps : Keeps before seen

rows_of_push : (path : List Visit) (visit : Visit) → rows_of (path ++ visit ∷ []) ≡ rows_of path ++ visit.row ∷ []
rows_of_push path visit = map-append (λ v. v.row) path (visit ∷ [])

pub begun : (graph : Graph) (from : ℕ) (path : List Visit) (seen : List Bool) (order : List ℕ) → IsWalk graph [] seen order
    → IsRow graph from → get_or seen from false ≡ false → path ≡ visit_of from 0 ∷ []
    → IsWalkFrom graph from seen path (set seen from true) order
begun graph from path seen order w row new is =
    let in_marks : from < length seen = omega (arith, row, w.length) in
    subst (λ p. IsWalkFrom graph from seen p (set seen from true) order) (sym is) (record {
      walk = entered graph [] seen order from w row new (λ b h. absurd (Contains-nil b h));
      followed = All-push (IsFollowed graph (set seen from true)) [] (visit_of from 0) (All-nil (IsFollowed graph (set seen from true))) (not_followed graph (set seen from true) from row);
      begins = set_sees seen from from in_marks refl;
      keeps = λ a h. set_keeps seen a from in_marks h;
    })

-- a turn of the loop: the path ends in this visit, and these are the references of its row
pub record IsTurn (graph : Graph) (from : ℕ) (before : List Bool) (path rest : List Visit) (visit : Visit) (seen : List Bool) (order refs : List ℕ) : Type 0 where
  pub here : IsWalk graph (rows_of rest ++ visit.row ∷ []) seen order
  pub others : All (IsFollowed graph seen) rest
  pub last : IsFollowed graph seen visit
  pub begins : IsSeen seen from
  pub keeps : Keeps before seen
  pub ends : path ≡ rest ++ visit ∷ []
  pub lists : references graph visit.row ≡ refs

pub turn : {graph : Graph} {from : ℕ} {before : List Bool} {path rest : List Visit} {visit : Visit} {seen : List Bool} {order refs row : List ℕ}
    → IsWalkFrom graph from before path seen order → path ≡ rest ++ visit ∷ [] → refs ≡ row → row ≡ get_or graph visit.row row
    → IsTurn graph from before path rest visit seen order refs
turn {graph} {from} {before} {path} {rest} {visit} {seen} {order} {refs} {row} w ends is_row at =
    let visits : All (IsFollowed graph seen) rest × IsFollowed graph seen visit = All-pop (IsFollowed graph seen) path rest (Some visit) ends w.followed in
    record {
      here = subst (λ rows. IsWalk graph rows seen order) (ap rows_of ends ∙ rows_of_push rest visit) w.walk;
      others = visits.0;
      last = visits.1;
      begins = w.begins;
      keeps = w.keeps;
      ends = ends;
      lists = get_or_default graph visit.row [] row visits.1.row ∙ sym at ∙ sym is_row;
    }

module _ {graph : Graph} {from : ℕ} {before : List Bool} {path rest : List Visit} {visit : Visit} {seen : List Bool} {order refs : List ℕ}
    (t : IsTurn graph from before path rest visit seen order refs) where
  row_here : IsClosed graph → visit.followed < length refs → IsRow graph (get_or refs visit.followed 0)
  row_here closed lt = subst (λ rs. IsRow graph (get_or rs visit.followed 0)) t.lists
      (closed visit.row [] t.last.row visit.followed 0 (rw t.lists lt))

  -- the mark of the next reference, as the code reads it
  pub mark_here : IsClosed graph → visit.followed < length refs → (mark known : Bool) → mark ≡ get_or seen (get_or refs visit.followed 0) mark
      → mark ≡ known → get_or seen (get_or refs visit.followed 0) false ≡ known
  mark_here closed lt mark known read is =
      mark_read seen (get_or refs visit.followed 0) mark known (omega (arith, row_here closed lt, t.here.length)) read is

  -- the next reference is seen
  pub passed_here : (next : List Visit) → next ≡ rest ++ next_of visit ∷ [] → visit.followed < length refs
      → IsSeen seen (get_or refs visit.followed 0) → IsWalkFrom graph from before next seen order
  passed_here next is_next lt known =
      rw is_next (record {
        walk = rw (rows_of_push rest (next_of visit)) t.here;
        followed = All-push (IsFollowed graph seen) rest (next_of visit) t.others (one_followed graph seen visit.row visit.followed t.last (rw t.lists lt) (rw t.lists known));
        begins = t.begins;
        keeps = t.keeps;
      })

  rows_entered : (next : List Visit) (b : ℕ) → next ≡ (rest ++ next_of visit ∷ []) ++ visit_of b 0 ∷ []
      → rows_of next ≡ (rows_of rest ++ visit.row ∷ []) ++ b ∷ []
  rows_entered next b is_next = ap rows_of is_next
      ∙ rows_of_push (rest ++ next_of visit ∷ []) (visit_of b 0)
      ∙ ap (λ rows. rows ++ b ∷ []) (rows_of_push rest (next_of visit))

  -- it isn't, and the walk goes on to it
  pub entered_here : (next : List Visit) (b : ℕ) → IsClosed graph → next ≡ (rest ++ next_of visit ∷ []) ++ visit_of b 0 ∷ []
      → b ≡ get_or refs visit.followed 0 → visit.followed < length refs → get_or seen b false ≡ false
      → IsWalkFrom graph from before next (set seen b true) order
  entered_here next b closed is_next is lt new =
      let marked : List Bool = set seen b true in
      let within : visit.followed < length (references graph visit.row) = rw t.lists lt in
      let refers : b ≡ get_or (references graph visit.row) visit.followed 0 = rw t.lists is in
      let is_row : IsRow graph b = rw is (row_here closed lt) in
      let in_marks : b < length seen = omega (arith, is_row, t.here.length) in
      let keeps : Keeps seen marked = λ c h. set_keeps seen c b in_marks h in
      record {
        walk = rw (rows_entered next b is_next)
            (entered graph (rows_of rest ++ visit.row ∷ []) seen order b t.here is_row new
            (path_reaches graph (rows_of rest) visit.row b t.here.along (subst (Contains (references graph visit.row)) (sym refers) (Contains-get_or (references graph visit.row) visit.followed 0 within))));
        followed = rw is_next (All-push (IsFollowed graph marked) (rest ++ next_of visit ∷ []) (visit_of b 0)
            (All-push (IsFollowed graph marked) rest (next_of visit)
            (followed_keeps graph seen marked rest keeps t.others)
            (one_followed graph marked visit.row visit.followed (follows_keeps graph seen marked visit keeps t.last) within (subst (IsSeen marked) refers (set_sees seen b b in_marks refl))))
            (not_followed graph marked b is_row));
        begins = keeps from t.begins;
        keeps = λ c h. keeps c (t.keeps c h);
      }

  -- all references are seen, and the walk leaves the row
  pub left_here : (next : List ℕ) → next ≡ order ++ visit.row ∷ [] → length refs ≤ visit.followed → IsWalkFrom graph from before rest seen next
  left_here next is_next le = rw is_next (record {
    walk = left graph (rows_of rest) seen order visit.row t.here t.last.row (all_followed graph seen visit.row visit.followed t.last (rw t.lists le));
    followed = t.others;
    begins = t.begins;
    keeps = t.keeps;
  })

  -- each turn leaves less to be done
  pub less_passed : (next : List Visit) → next ≡ rest ++ next_of visit ∷ [] → visit.followed < length refs
      → work graph next seen < work graph path seen
  less_passed next is_next lt = rw (is_next, t.ends) (omega (
    arith,
    sum_by_push (work_on graph) rest visit,
    sum_by_push (work_on graph) rest (next_of visit),
    ap length t.lists,
  ))

  pub less_entered : (next : List Visit) (b : ℕ) → IsClosed graph → next ≡ (rest ++ next_of visit ∷ []) ++ visit_of b 0 ∷ []
      → b ≡ get_or refs visit.followed 0 → visit.followed < length refs → get_or seen b false ≡ false
      → work graph next (set seen b true) < work graph path seen
  less_entered next b closed is_next is lt new =
      let within : visit.followed < length (references graph visit.row) = rw t.lists lt in
      let is_row : IsRow graph b = rw is (row_here closed lt) in
      let in_marks : b < length seen = omega (arith, is_row, t.here.length) in
      rw (is_next, t.ends) (omega (
        arith,
        sum_by_push (work_on graph) rest visit,
        sum_by_push (work_on graph) rest (next_of visit),
        sum_by_push (work_on graph) (rest ++ next_of visit ∷ []) (visit_of b 0),
        within,
        work_ahead-set graph seen b is_row in_marks new,
      ))
