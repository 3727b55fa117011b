-- What holds of every node in nests, of every choice of a head, and of loops where there are some.
use Rattle.std.proofs.Common.{◌≡◌, ℕ, Bool, true, false, ◌||◌, List, refl}
use Rattle.std.specs.Prelude.{⊤}
use Rattle.emit_rules.specs.Nests.{Nest, single, choice, group, repeated, dispatched, Chain, no_nests, more_nests, Chains, no_chains, more_chains, nest_is_told, chain_is_told}
use Rattle.emit_laws.specs.Tells.{nest_chooses, chain_chooses, chains_choose}

module _ (OfNode : ℕ → Type 0) (OfChoice : List ℕ → Type 0) (OfLoop : Type 0) where
  abbrev mutual
    pub EveryNest : Nest → Type 0
    EveryNest (single node arms) = OfNode node × EveryChains arms
    EveryNest (choice heads arms) = OfChoice heads × EveryChains arms
    EveryNest (group members) = EveryChain members
    EveryNest (repeated head body) = OfLoop × EveryChain body
    EveryNest (dispatched heads body) = OfChoice heads × OfLoop × EveryChain body

    pub EveryChain : Chain → Type 0
    EveryChain no_nests = ⊤
    EveryChain (more_nests nest others) = EveryNest nest × EveryChain others

    pub EveryChains : Chains → Type 0
    EveryChains no_chains = ⊤
    EveryChains (more_chains first others) = EveryChain first × EveryChains others

  -- where each choice gives something, what holds a choice does
  module _ (A : Type 0) (gives : (heads : List ℕ) → OfChoice heads → A) where
    mutual
      pub nest_told_gives : (nest : Nest) → EveryNest nest → nest_is_told nest ≡ true → A
      nest_told_gives (single node arms) every is = absurd cc
      nest_told_gives (choice heads arms) every is = gives heads every.0
      nest_told_gives (group members) every is = chain_told_gives members every is
      nest_told_gives (repeated head body) every is = chain_told_gives body every.1 is
      nest_told_gives (dispatched heads body) every is = gives heads every.0

      pub chain_told_gives : (nests : Chain) → EveryChain nests → chain_is_told nests ≡ true → A
      chain_told_gives no_nests every is = absurd cc
      chain_told_gives (more_nests first others) every is = nest_told_gives first every.0 is

    by_either : (a b : Bool) → (a || b) ≡ true → (a ≡ true → A) → (b ≡ true → A) → A
    by_either true b is one other = one refl
    by_either false b is one other = other is

    mutual
      nest_choice_gives : (nest : Nest) → EveryNest nest → nest_chooses nest ≡ true → A
      nest_choice_gives (single node arms) every is = chains_choice_gives arms every.1 is
      nest_choice_gives (choice heads arms) every is = gives heads every.0
      nest_choice_gives (group members) every is = chain_choice_gives members every is
      nest_choice_gives (repeated head body) every is = chain_choice_gives body every.1 is
      nest_choice_gives (dispatched heads body) every is = gives heads every.0

      pub chain_choice_gives : (nests : Chain) → EveryChain nests → chain_chooses nests ≡ true → A
      chain_choice_gives no_nests every is = absurd cc
      chain_choice_gives (more_nests nest others) every is = by_either (nest_chooses nest) (chain_chooses others) is (nest_choice_gives nest every.0) (chain_choice_gives others every.1)

      chains_choice_gives : (arms : Chains) → EveryChains arms → chains_choose arms ≡ true → A
      chains_choice_gives no_chains every is = absurd cc
      chains_choice_gives (more_chains first others) every is = by_either (chain_chooses first) (chains_choose others) is (chain_choice_gives first every.0) (chains_choice_gives others every.1)

-- what gives something else
module _ (OfNode OtherNode : ℕ → Type 0) (OfChoice OtherChoice : List ℕ → Type 0) (OfLoop OtherLoop : Type 0) (node_is : (node : ℕ) → OfNode node → OtherNode node)
    (choice_is : (heads : List ℕ) → OfChoice heads → OtherChoice heads) (loop_is : OfLoop → OtherLoop) where
  mutual
    nest_with : (nest : Nest) → EveryNest OfNode OfChoice OfLoop nest → EveryNest OtherNode OtherChoice OtherLoop nest
    nest_with (single node arms) every = (node_is node every.0, chains_with arms every.1)
    nest_with (choice heads arms) every = (choice_is heads every.0, chains_with arms every.1)
    nest_with (group members) every = chain_with members every
    nest_with (repeated head body) every = (loop_is every.0, chain_with body every.1)
    nest_with (dispatched heads body) every = (choice_is heads every.0, loop_is every.1, chain_with body every.2)

    pub chain_with : (nests : Chain) → EveryChain OfNode OfChoice OfLoop nests → EveryChain OtherNode OtherChoice OtherLoop nests
    chain_with no_nests every = tt
    chain_with (more_nests nest others) every = (nest_with nest every.0, chain_with others every.1)

    chains_with : (arms : Chains) → EveryChains OfNode OfChoice OfLoop arms → EveryChains OtherNode OtherChoice OtherLoop arms
    chains_with no_chains every = tt
    chains_with (more_chains first others) every = (chain_with first every.0, chains_with others every.1)
