-- What the message on a text says, and where.
use Rattle.std.specs.Prelude.{◌≡◌, ℕ, ◌^◌, ◌≤◌, Bool, true, false, List, [], ◌∷◌, ◌++◌, length}
use Rattle.st_tree.specs.declared.tree.unit.Unit.{Unit as Section}
use Rattle.st_faults.specs.declared.fault.Fault.{Fault}
use Rattle.st_faults.specs.declared.fault.Rule.TheVariants as rules
use Rattle.st_tokens.specs.Text.{Tokens}
use Rattle.st_tokens.specs.declared.fault.SyntaxFault.{SyntaxFault}
use Rattle.st_tokens.specs.declared.fault.SyntaxFault.TheVariants as syntax_faults
use Rattle.st_syntax.specs.Grammar.Texts.{Explains as ExplainsSyntax, IsTextOf}
use Rattle.st_messages.specs.Lexemes.{AreLexemes}
use Rattle.st_messages.specs.declared.lexeme.Lexeme.{Lexeme}
use Rattle.st_messages.specs.Headings.{IsTold, heading, place_at}
use Rattle.st_messages.specs.Places.{HasLine}
use Rattle.st_messages.specs.declared.form.Code.{Code}
use Rattle.st_syntax_messages.specs.Located.{IsUnknownAt}
use Rattle.st_syntax_messages.specs.Stopped.{IsOutsideAt, IsTooDeepAt, start_at}
use Rattle.st_check.specs.Faults.{HasNoProgram, IsAccepted, IsFirst}
use Rattle.st_explain.specs.Collections.{AreInOrder, AreLater}
use Rattle.st_explain.specs.Places.{code_of}

-- the text is these units, and isn't too long
pub record IsRead (text : List ℕ) (us : List Section) : Type 0 where
  pub short : length text ≤ 2 ^ 20
  pub is : IsTextOf text us

-- it is no units
abbrev pub IsUnread : List ℕ → Type 0
IsUnread text = (us : List Section) → IsRead text us → ⊥

-- ---- a rule that is broken at a token

-- a message got the heading and the title of a fault, at the token of its number among these, and then more
abbrev pub IsToldAt : (file text : List ℕ) → List Lexeme → Fault → List ℕ → List ℕ → Type 0
IsToldAt file text lexemes f old new = (title : List ℕ) × IsTold old new file text (start_at lexemes f.position.number) (code_of f.rule) title

-- the message on a text is that on a fault, at its token
pub record TellsFault (file text : List ℕ) (f : Fault) (message : List ℕ) : Type 0 where
  pub tokens : Tokens
  pub lexemes : List Lexeme
  pub are : AreLexemes text tokens lexemes
  pub told : IsToldAt file text lexemes f [] message

-- ---- no such program

-- the message has no line of the text, and names its first place
abbrev pub TellsNoProgram : List ℕ → List ℕ → Type 0
TellsNoProgram file message = (more : List ℕ) × (message ≡ heading file (record { line = 1; column = 1 }) (code_of rules.NoProgram) ++ more)

-- ---- a text that is no units

-- the number of a refusal, behind its S
abbrev pub syntax_number : SyntaxFault → ℕ
syntax_number syntax_faults.Memory = 0
syntax_number (syntax_faults.NoToken line) = 1
syntax_number (syntax_faults.NotInGrammar line) = 2
syntax_number (syntax_faults.TooDeep line) = 3
syntax_number syntax_faults.TooLong = 4

-- `S` and that number
abbrev pub syntax_code : SyntaxFault → Code
syntax_code fault = record { letter = 83; number = syntax_number fault }

-- the line that a refusal names; a text that is too long is refused on its first one
abbrev pub syntax_line : SyntaxFault → ℕ
syntax_line syntax_faults.Memory = 0
syntax_line (syntax_faults.NoToken line) = line
syntax_line (syntax_faults.NotInGrammar line) = line
syntax_line (syntax_faults.TooDeep line) = line
syntax_line syntax_faults.TooLong = 1

-- what stands where a refusal is told of
abbrev pub IsSyntaxPlace : SyntaxFault → List ℕ → ℕ → Type 0
IsSyntaxPlace syntax_faults.Memory text start = Unit {0}
IsSyntaxPlace (syntax_faults.NoToken line) text start = IsUnknownAt text line start
IsSyntaxPlace (syntax_faults.NotInGrammar line) text start = IsOutsideAt text line start
IsSyntaxPlace (syntax_faults.TooDeep line) text start = IsTooDeepAt text line start
IsSyntaxPlace syntax_faults.TooLong text start = start ≡ 0

-- the message is that on this fault, of which this is so: on the line that it names, where the text has one
pub record TellsSyntax (file text : List ℕ) (fault : SyntaxFault) (message : List ℕ) : Type 0 where
  pub read : 1 ≤ syntax_number fault
  pub is : ExplainsSyntax fault text
  pub start : ℕ
  pub title : List ℕ
  pub told : IsTold [] message file text start (syntax_code fault) title
  pub line : HasLine text (syntax_line fault) → (place_at text start).line ≡ syntax_line fault
  pub place : IsSyntaxPlace fault text start

-- ---- all faults

-- a message got what is told of each of these faults, one behind the other
pub data AreTold (file text : List ℕ) (lexemes : List Lexeme) : List Fault → List ℕ → List ℕ → Type 0 where
  none : {message : List ℕ} → AreTold file text lexemes [] message message
  more : {f : Fault} {fs : List Fault} {old mid new : List ℕ}
      → IsToldAt file text lexemes f old mid → AreTold file text lexemes fs mid new → AreTold file text lexemes (f ∷ fs) old new

-- the message on a text is those on these faults, each at its token
pub record TellsFaults (file text : List ℕ) (fs : List Fault) (message : List ℕ) : Type 0 where
  pub tokens : Tokens
  pub lexemes : List Lexeme
  pub are : AreLexemes text tokens lexemes
  pub told : AreTold file text lexemes fs [] message

-- it is that on a fault, and those on the faults behind it, each at a later token than the one before: on all of them, or on so many with the first
pub record TellsFrom (most : ℕ) (file text : List ℕ) (us : List Section) (f : Fault) (message : List ℕ) : Type 0 where
  pub later : List Fault
  pub told : TellsFaults file text (f ∷ later) message
  pub order : AreInOrder (f ∷ later)
  pub are : AreLater us most f later

-- ---- a text that is units

-- the message on a text that is these units, by what is told from a fault on
pub data TellsUnits (Tells : Fault → List ℕ → Type 0) (file : List ℕ) (us : List Section) (main : List ℕ) : List ℕ → Type 0 where
  nothing : {number : ℕ} → IsAccepted us main number → TellsUnits Tells file us main []
  fault : {f : Fault} {message : List ℕ} → IsFirst us main f → Tells f message → TellsUnits Tells file us main message
  no_program : {message : List ℕ} → HasNoProgram us main → TellsNoProgram file message → TellsUnits Tells file us main message

-- ---- a text

-- the message on a text, by what is told from the first fault of its units on
pub record IsMessage (Tells : List Section → Fault → List ℕ → Type 0) (file text main message : List ℕ) : Type 0 where
  pub accepted : (us : List Section) (number : ℕ) → IsRead text us → IsAccepted us main number → message ≡ []
  -- at the token of the first fault: its line, its column and the number of the rule
  pub fault : (us : List Section) (f : Fault) → IsRead text us → IsFirst us main f → Tells us f message
  pub no_program : (us : List Section) → IsRead text us → HasNoProgram us main → TellsNoProgram file message
  -- on the fault that was found
  pub unread : IsUnread text → (fault : SyntaxFault) × TellsSyntax file text fault message

-- on the first fault alone
abbrev pub ExplainsFirst : (file text main message : List ℕ) → Type 0
ExplainsFirst file text main message = IsMessage (λ us f m. TellsFault file text f m) file text main message

-- on all faults, a hundred at most
abbrev pub ExplainsAll : (file text main message : List ℕ) → Type 0
ExplainsAll file text main message = IsMessage (TellsFrom 100 file text) file text main message

-- on all, or on the first
abbrev pub Explains : Bool → (file text main message : List ℕ) → Type 0
Explains true file text main message = ExplainsAll file text main message
Explains false file text main message = ExplainsFirst file text main message
