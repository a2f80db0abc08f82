-- The message on a text, where it is known what was found in it.
use Rattle.std.proofs.Common.{◌≡◌, ℕ, ◌+◌, ◌<◌, ◌≤◌, ◌^◌, List, [], ◌∷◌, ◌++◌, append_assoc, length, Some, None, refl, sym, ap, ◌∙◌, subst, arith}
use Rattle.std.specs.Prelude.{IfOk, Ok, OnOk, Err, Result}
use Rattle.std.specs.List.{All}
use Rattle.std.proofs.lemmas.List.Elements.{All-nil}
use Rattle.st_tree.specs.declared.tree.unit.Unit.{Unit as Section}
use Rattle.st_faults.specs.declared.fault.Fault.{Fault}
use Rattle.st_tokens.specs.Text.{Tokens}
use Rattle.st_tokens.specs.declared.fault.SyntaxFault.{SyntaxFault}
use Rattle.st_tokens.specs.declared.fault.SyntaxFault.TheVariants as syntax_faults
use Rattle.st_syntax.specs.Grammar.Texts.{IsTextOf}
use Rattle.st_messages.specs.Lexemes.{AreLexemes}
use Rattle.st_messages.specs.declared.lexeme.Lexeme.{Lexeme}
use Rattle.st_messages.specs.Headings.{IsTold}
use Rattle.st_check.specs.Faults.{HasNoProgram, IsAccepted, IsFirst, IsUnitFault}
use Rattle.st_check.specs.Recursions.{HasNoneFrom}
use Rattle.st_check.specs.Laws.{FirstIsOne}
use Rattle.st_explain.specs.Collections.{AreLater, AreNext, last_number}
use Rattle.st_explain.specs.Findings.{Finds}
use Rattle.st_explain.specs.declared.finding.Finding.{Finding}
use Rattle.st_explain.specs.Messages.{AreTold, ExplainsFirst, IsMessage, IsRead, IsToldAt, TellsFault, TellsFaults, TellsFrom, TellsNoProgram, TellsSyntax, TellsUnits, more, none, syntax_number}
use Rattle.st_explain.specs.Messages as says
use Rattle.st_syntax_messages.specs.Stopped.{start_at}
use Rattle.st_explain.specs.Places.{code_of}
use Rattle.st_explain.proofs.Ordered.{next_in_order}
use Rattle.st_explain.proofs.Told.{told_alone}

-- ---- at a token

pub tells_fault : (file text : List ℕ) (f : Fault) (ts : Tokens) (found read : List Lexeme) (start message : List ℕ) → AreLexemes text ts found → read ≡ found → start ≡ []
    → IsToldAt file text read f start message → TellsFault file text f message
tells_fault file text f ts found read start message are same empty told = record {
  tokens = ts;
  lexemes = found;
  are = are;
  told = subst (λ s. IsToldAt file text found f s message) empty (subst (λ ls. IsToldAt file text ls f start message) same told);
}

pub tells_faults : (file text : List ℕ) (fs : List Fault) (ts : Tokens) (found read : List Lexeme) (start message : List ℕ) → AreLexemes text ts found → read ≡ found → start ≡ []
    → AreTold file text read fs start message → TellsFaults file text fs message
tells_faults file text fs ts found read start message are same empty told = record {
  tokens = ts;
  lexemes = found;
  are = are;
  told = subst (λ s. AreTold file text found fs s message) empty (subst (λ ls. AreTold file text ls fs start message) same told);
}

-- two faults at one token that break one rule are told alike
told_same : (file text : List ℕ) (lexemes : List Lexeme) (f g : Fault) (old new : List ℕ) → (g.position.number ≡ f.position.number) × (g.rule ≡ f.rule)
    → IsToldAt file text lexemes g old new → IsToldAt file text lexemes f old new
told_same file text lexemes f g old new same t = (
  t.0,
  subst (λ r. IsTold old new file text (start_at lexemes f.position.number) (code_of r) t.0) same.1
      (subst (λ n. IsTold old new file text (start_at lexemes n) (code_of g.rule) t.0) same.0 t.1),
)

head_same : (file text : List ℕ) (lexemes : List Lexeme) (f g : Fault) (fs : List Fault) (old new : List ℕ) → (g.position.number ≡ f.position.number) × (g.rule ≡ f.rule)
    → AreTold file text lexemes (g ∷ fs) old new → AreTold file text lexemes (f ∷ fs) old new
head_same file text lexemes f g fs old new same (more {mid = mid} t w) = more (told_same file text lexemes f g old mid same t) w

module _ (most : ℕ) (file text : List ℕ) (us : List Section) where
  -- two faults at one token that break one rule are told alike, with those behind them
  pub from_same : (f g : Fault) (message : List ℕ) → (g.position.number ≡ f.position.number) × (g.rule ≡ f.rule)
      → TellsFrom most file text us g message → TellsFrom most file text us f message
  from_same f g message same t = record {
    later = t.later;
    told = record {
      tokens = t.told.tokens;
      lexemes = t.told.lexemes;
      are = t.told.are;
      told = head_same file text t.told.lexemes f g t.later [] message same t.told.told;
    };
    order = (subst (λ n. All (λ h. n < h.position.number) t.later) same.0 t.order.0, t.order.1);
    are = record {
      next = subst (λ n. AreNext us n t.later) same.0 t.are.next;
      few = t.are.few;
      all = λ below. subst (λ n. HasNoneFrom (last_number n t.later + 1) us) same.0 (t.are.all below);
    };
  }

  -- one fault, where no token has another
  pub from_alone : (f : Fault) (message : List ℕ) → 1 ≤ most → ((g : Fault) → IsUnitFault us g → ⊥) → TellsFault file text f message → TellsFrom most file text us f message
  from_alone f message one only t = record {
    later = [];
    told = record { tokens = t.tokens; lexemes = t.lexemes; are = t.are; told = more t.told none };
    order = (All-nil (λ g. f.position.number < g.position.number), tt);
    are = record { next = tt; few = omega (arith, one); all = λ below g h le. only g h };
  }

  pub from_faults : (f : Fault) (fs : List Fault) (message : List ℕ) → (later : List Fault) × (fs ≡ f ∷ later) × AreLater us most f later
      → TellsFaults file text fs message → TellsFrom most file text us f message
  from_faults f fs message w t = record {
    later = w.0;
    told = subst (λ xs. TellsFaults file text xs message) w.1 t;
    order = next_in_order us f.position.number w.0 w.2.next;
    are = w.2;
  }

-- of one fault at most the first one is told
pub first_alone : (file text : List ℕ) (us : List Section) (f : Fault) (message : List ℕ) → TellsFrom 1 file text us f message → TellsFault file text f message
first_alone file text us f message t = alone t.later t.are.few t.told where
  alone : (later : List Fault) → length (f ∷ later) ≤ 1 → TellsFaults file text (f ∷ later) message → TellsFault file text f message
  alone [] few w = record { tokens = w.tokens; lexemes = w.lexemes; are = w.are; told = told_alone file text w.lexemes f [] message w.told }
  alone (g ∷ gs) few w = absurd (omega (arith, few))

-- a heading in an empty message, and what follows it
pub headed : (head title line rest a b c d e : List ℕ) → a ≡ [] → b ≡ a ++ head → c ≡ b ++ title → d ≡ c ++ line → e ≡ d ++ rest → (all : List ℕ) × (e ≡ head ++ all)
headed head title line rest a b c d e e1 e2 e3 e4 e5 = (
  title ++ (line ++ rest),
  e5 ∙ ap (λ x. x ++ rest) (e4 ∙ ap (λ x. x ++ line) (e3 ∙ ap (λ x. x ++ title) (e2 ∙ ap (λ x. x ++ head) e1)))
      ∙ regrouped head title line rest,
) where
  regrouped : (p q r s : List ℕ) → ((p ++ q) ++ r) ++ s ≡ p ++ (q ++ (r ++ s))
  regrouped p q r s = simp append_assoc

-- ---- what is known of the text

pub finds_in : (tables us : List Section) (main : List ℕ) (x y : Finding) → tables ≡ us → x ≡ y → Finds tables main x → Finds us main y
finds_in tables us main x y same is w = subst (λ f. Finds us main f) is (subst (λ t. Finds t main x) same w)

pub later_in : (tables us : List Section) (most : ℕ) (f : Fault) (fs : List Fault) → tables ≡ us → (later : List Fault) × (fs ≡ f ∷ later) × AreLater tables most f later
    → (later : List Fault) × (fs ≡ f ∷ later) × AreLater us most f later
later_in tables us most f fs same w = (w.0, w.1, subst (λ t. AreLater t most f w.0) same w.2)

-- ---- the message on a text

module _ (Tells : Fault → List ℕ → Type 0) (file : List ℕ) (us : List Section) (main : List ℕ) where
  units_accepted : (message : List ℕ) → (number : ℕ) → IsAccepted us main number → TellsUnits Tells file us main message → message ≡ []
  units_accepted message number v (says.nothing w) = refl
  units_accepted message number v (says.fault {f = g} w t) = absurd (v.none g w.there)
  units_accepted message number v (says.no_program w t) = (let e : Some number ≡ None = sym v.program ∙ w.missing in absurd (cc))

  units_fault : (message : List ℕ) → FirstIsOne → ((f g : Fault) → (g.position.number ≡ f.position.number) × (g.rule ≡ f.rule) → Tells g message → Tells f message)
      → (f : Fault) → IsFirst us main f → TellsUnits Tells file us main message → Tells f message
  units_fault message one alike f v (says.nothing w) = absurd (w.none f v.there)
  units_fault message one alike f v (says.fault {f = g} w t) = alike f g (one us main g f w v) t
  units_fault message one alike f v (says.no_program w t) = absurd (w.none f v.there)

  units_no_program : (message : List ℕ) → HasNoProgram us main → TellsUnits Tells file us main message → TellsNoProgram file message
  units_no_program message v (says.nothing {number = number} w) = (let e : Some number ≡ None = sym w.program ∙ v.missing in absurd (cc))
  units_no_program message v (says.fault {f = g} w t) = absurd (v.none g w.there)
  units_no_program message v (says.no_program w t) = t

-- the text is these units and no others
pub message_of_units : (most : ℕ) (file text main : List ℕ) (us : List Section) (message : List ℕ) → FirstIsOne → IsRead text us → ((vs : List Section) → IsRead text vs → us ≡ vs)
    → TellsUnits (TellsFrom most file text us) file us main message → IsMessage (TellsFrom most file text) file text main message
message_of_units most file text main us message one read only t = record {
  accepted = λ vs number r v. units_accepted (TellsFrom most file text vs) file vs main message number v (told vs r);
  fault = λ vs f r v. units_fault (TellsFrom most file text vs) file vs main message one (λ f g. from_same most file text vs f g message) f v (told vs r);
  no_program = λ vs r v. units_no_program (TellsFrom most file text vs) file vs main message v (told vs r);
  unread = λ never. absurd (never us read);
} where
  told : (vs : List Section) → IsRead text vs → TellsUnits (TellsFrom most file text vs) file vs main message
  told vs r = subst (λ xs. TellsUnits (TellsFrom most file text xs) file xs main message) (only vs r) t

-- the text is no units, or memory ran out while it was read, and then there is no message
pub message_unread : {A E : Type 0} (bytes : A → List ℕ) (result : Result A E) (Tells : List Section → Fault → List ℕ → Type 0) (file text main : List ℕ) (fault : SyntaxFault)
    → IfOk result (λ m. TellsSyntax file text fault (bytes m)) → OnOk result (1 ≤ syntax_number fault) → ((us : List Section) → IsRead text us → fault ≡ syntax_faults.Memory)
    → IfOk result (λ m. IsMessage Tells file text main (bytes m))
message_unread bytes (Ok m) Tells file text main fault told read only = record {
  accepted = λ us number r v. absurd (never us r);
  fault = λ us f r v. absurd (never us r);
  no_program = λ us r v. absurd (never us r);
  unread = λ none. (fault, told);
} where
  never : (us : List Section) → IsRead text us → ⊥
  never us r = let k : 1 ≤ syntax_number syntax_faults.Memory = subst (λ x. 1 ≤ syntax_number x) (only us r) read in omega (arith, k)
message_unread bytes (Err e) Tells file text main fault told read only = tt

-- on the first fault alone
pub message_on_first : (file text main message : List ℕ) → IsMessage (TellsFrom 1 file text) file text main message → ExplainsFirst file text main message
message_on_first file text main message w = record {
  accepted = w.accepted;
  fault = λ us f r v. first_alone file text us f message (w.fault us f r v);
  no_program = w.no_program;
  unread = w.unread;
}

-- ---- results

pub in_ok : {A E : Type 0} (r : Result A E) (P Q : A → Type 0) → IfOk r P → ((a : A) → P a → Q a) → IfOk r Q
in_ok (Ok a) P Q h f = f a h
in_ok (Err e) P Q h f = tt

not_longer : (n most : ℕ) → (most < n → ⊥) → n ≤ most
not_longer n most h = grind (arith, h)

pub is_read : (text : List ℕ) (us : List Section) → IsTextOf text us → (2 ^ 20 < length text → ⊥) → IsRead text us
is_read text us is h = record { short = not_longer (length text) (2 ^ 20) h; is = is }
