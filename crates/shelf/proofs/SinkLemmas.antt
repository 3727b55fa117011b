-- How the bytes that a sink has taken go on from one write to the next.
use Rattle.std.proofs.Common.{ℕ, ◌+◌, ◌-◌, List, [], ◌++◌, take, drop, length, Option, Some, None, sym, ap, ◌∙◌, append_assoc, append-nil, take-add}
use Rattle.std.proofs.lemmas.List.{take_rest}
use Rattle.shelf.specs.Sink.{Appended}

-- nothing is appended where nothing changed
pub Appended-none : (written : Option (List ℕ)) → Appended [] written written
Appended-none None = tt
Appended-none (Some bytes) = sym (append-nil bytes)

-- two writes in a row append both pieces
pub Appended-append : (first second : List ℕ) (before between now : Option (List ℕ)) → Appended first before between → Appended second between now → Appended (first ++ second) before now
Appended-append first second before between None a b = tt
Appended-append first second before None (Some now) a b = absurd b
Appended-append first second None (Some between) (Some now) a b = absurd a
Appended-append first second (Some before) (Some between) (Some now) a b =
    b ∙ ap (λ (xs : List ℕ). xs ++ second) a ∙ append_assoc before first second

-- the part of a piece taken so far, and a prefix of the rest of it
pub Appended-more : (piece : List ℕ) (done count : ℕ) (before between now : Option (List ℕ)) → Appended (take done piece) before between → Appended (take count (take (length piece - done) (drop done piece))) between now → Appended (take (done + count) piece) before now
Appended-more piece done count before between now a b =
    let rest = rw (take_rest piece done) at b in
    rw take-add (Appended-append (take done piece) (take count (drop done piece)) before between now a rest)
