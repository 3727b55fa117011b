-- Readers: what is read from the front of the tokens, and the tokens and names in scope behind it.
use Rattle.std.specs.Prelude.{◌≡◌, ◌≢◌, ℕ, List, ◌++◌, length, take, Option, Some, None, Result, Ok, Err}
use Rattle.cx_cursor.specs.declared.fault.Fault.{Fault}
use Rattle.cx_cursor.specs.declared.fault.Fault.TheVariants.{Memory}
use Rattle.cx_lex.specs.declared.token.Token.{Token}
use Rattle.cx_tree.specs.Names.{Binding}

-- what a reader reads from: the tokens ahead, and the names in scope, oldest first
pub record State : Type 0 where
  pub tokens : List Token
  pub names : List Binding

abbrev pub at : List Token → List Binding → State
at tokens names = record { tokens = tokens; names = names }

-- None is a refusal
abbrev pub Reader : Type 0 → Type 0
Reader A = State → Option (A × State)

abbrev pub onward : {A B : Type 0} → Option (A × State) → (A → Reader B) → Option (B × State)
onward None go = None
onward (Some read) go = go read.0 read.1

unfoldable pub bind : {A B : Type 0} → Reader A → (A → Reader B) → Reader B
bind read go state = onward (read state) go

infixl 10 ◌>>=◌
abbrev pub ◌>>=◌ : {A B : Type 0} → Reader A → (A → Reader B) → Reader B
read >>= go = bind read go

abbrev pub pure : {A : Type 0} → A → Reader A
pure a = λ state. Some (a, state)

abbrev pub refuse : {A : Type 0} → Reader A
refuse = λ state. None

-- Names come into scope; nothing is read. What is given is handed on.
abbrev pub declaring : {A : Type 0} → List Binding → A → Reader A
declaring new a = λ state. Some (a, at state.tokens (state.names ++ new))

-- Names but this many of the oldest go out of scope.
abbrev pub leaving : {A : Type 0} → ℕ → A → Reader A
leaving count a = λ state. Some (a, at state.tokens (take count state.names))

-- What is read in a scope of its own (ISO C99, 6.2.1): the names that it declares end with it.
unfoldable pub scoped : {A : Type 0} → Reader A → Reader A
scoped read state = bind read (λ a. leaving (length state.names) a) state

-- What a function that reads ensures: the reader's answer, unless memory ran out. `view` is what the value that it gives
-- stands for.
abbrev pub Answers : {A B : Type 0} → (A → B) → Result A Fault → State → Option (B × State) → Type 0
Answers view (Ok value) after answer = answer ≡ Some (view value, after)
Answers view (Err fault) after answer = fault ≢ Memory → answer ≡ None
