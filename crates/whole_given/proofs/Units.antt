-- The names of one unit more.
use Rattle.std.proofs.Common.{◌≡◌, ℕ, zero, suc, List, [], ◌∷◌, ◌++◌, length, Option, None, Some, slice_get, subst, sym}
use Rattle.cx_core.specs.Trees.{CProgram}
use Rattle.whole_given.specs.Whole.{AreGiven, IsGiven}
use Rattle.whole_given.specs.declared.given.ModuleNames.{ModuleNames}

one_more : {A : Type 0} (P : ℕ → A → Type 0) (list : List A) (last : A) → ((k : ℕ) (one : A) → slice_get list k ≡ Some one → P k one) → P (length list) last →
    (k : ℕ) (one : A) → slice_get (list ++ last ∷ []) k ≡ Some one → P k one
one_more P [] last all here zero one e = let same : last ≡ one = cc in subst (P 0) same here
one_more P [] last all here (suc k) one e = cc
one_more P (first ∷ list) last all here zero one e = all 0 one e
one_more P (first ∷ list) last all here (suc k) one e = one_more (λ n. P (suc n)) list last (λ n. all (suc n)) here k one e

pub given_more : (program : CProgram) (unit : ℕ) (given : List ModuleNames) (table : ModuleNames) → AreGiven program given → length given ≡ unit → IsGiven program unit table →
    AreGiven program (given ++ table ∷ [])
given_more program unit given table all count here =
    one_more (IsGiven program) given table all (subst (λ n. IsGiven program n table) (sym count) here)
