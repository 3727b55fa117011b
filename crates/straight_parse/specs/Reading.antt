-- Readers: what is read from the front of the tokens, and the tokens behind it.
use Rattle.std.specs.Prelude.{◌≡◌, ◌≢◌, List, Option, Some, None, Result, Ok, Err}
use Rattle.cx_lex.specs.declared.token.Token.{Token}
use Rattle.straight_parse.specs.declared.fault.Fault.{Fault}
use Rattle.straight_parse.specs.declared.fault.Fault.TheVariants.{Memory}

-- what a reader reads from: the tokens ahead
abbrev pub State : Type 0
State = List Token

-- None is a refusal
abbrev pub Reader : Type 0 → Type 0
Reader A = State → Option (A × State)

abbrev pub onward : {A B : Type 0} → Option (A × State) → (A → Reader B) → Option (B × State)
onward None go = None
onward (Some read) go = go read.0 read.1

unfoldable pub bind : {A B : Type 0} → Reader A → (A → Reader B) → Reader B
bind read go state = onward (read state) go

infixl 10 ◌>>=◌
abbrev pub ◌>>=◌ : {A B : Type 0} → Reader A → (A → Reader B) → Reader B
read >>= go = bind read go

abbrev pub pure : {A : Type 0} → A → Reader A
pure a = λ state. Some (a, state)

abbrev pub refuse : {A : Type 0} → Reader A
refuse = λ state. None

-- What a function that reads ensures: the reader's answer, unless memory ran out. `view` is what the value that it gives
-- stands for.
abbrev pub Answers : {A B : Type 0} → (A → B) → Result A Fault → State → Option (B × State) → Type 0
Answers view (Ok value) after answer = answer ≡ Some (view value, after)
Answers view (Err fault) after answer = fault ≢ Memory → answer ≡ None
