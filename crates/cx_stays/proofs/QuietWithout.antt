-- An expression without calls is one whose calls are quiet.
use Rattle.std.proofs.Common.{◌≡◌, Bool, true, false, ◌&&◌, refl}
use Rattle.std.proofs.lemmas.Bool.{and_parts}
use Rattle.cx_core.specs.Trees.{CExpr, expr, CForm, whole, null, object, code, load, deref, member, address, convert, unary, binary, and, or, cond, assign, assign_by, step, call, call_by, comma, literal, put, CPuts, no_puts, more_puts, CProgram}
use Rattle.cx_mean.specs.Quiet.{calls_nothing, form_calls_nothing, puts_call_nothing}
use Rattle.cx_stays.specs.Stays.{calls_only_quiet, form_calls_only_quiet, puts_call_only_quiet}

both_true : (one other : Bool) → one ≡ true → other ≡ true → (one && other) ≡ true
both_true true other is too = too
both_true false other is too = absurd (cc (is))

module _ (program : CProgram) where
  mutual
    pub quiet_without : (e : CExpr) → calls_nothing e ≡ true → calls_only_quiet program e ≡ true
    quiet_without (expr type place form) none = form_without form none

    form_without : (form : CForm) → form_calls_nothing form ≡ true → form_calls_only_quiet program form ≡ true
    form_without (whole value) none = refl
    form_without null none = refl
    form_without (object number) none = refl
    form_without (code number) none = refl
    form_without (load from) none = quiet_without from none
    form_without (deref from) none = quiet_without from none
    form_without (member of spot) none = quiet_without of none
    form_without (address of) none = quiet_without of none
    form_without (convert value) none = quiet_without value none
    form_without (unary op value) none = quiet_without value none
    form_without (binary op left right) none =
        let parts = and_parts (calls_nothing left) (calls_nothing right) none in
        both_true _ _ (quiet_without left parts.0) (quiet_without right parts.1)
    form_without (and left right) none =
        let parts = and_parts (calls_nothing left) (calls_nothing right) none in
        both_true _ _ (quiet_without left parts.0) (quiet_without right parts.1)
    form_without (or left right) none =
        let parts = and_parts (calls_nothing left) (calls_nothing right) none in
        both_true _ _ (quiet_without left parts.0) (quiet_without right parts.1)
    form_without (cond test first second) none =
        let outer = and_parts (calls_nothing test && calls_nothing first) (calls_nothing second) none in
        let inner = and_parts (calls_nothing test) (calls_nothing first) outer.0 in
        both_true _ _ (both_true _ _ (quiet_without test inner.0) (quiet_without first inner.1)) (quiet_without second outer.1)
    form_without (assign target value) none =
        let parts = and_parts (calls_nothing target) (calls_nothing value) none in
        both_true _ _ (quiet_without target parts.0) (quiet_without value parts.1)
    form_without (assign_by op computes target value) none =
        let parts = and_parts (calls_nothing target) (calls_nothing value) none in
        both_true _ _ (quiet_without target parts.0) (quiet_without value parts.1)
    form_without (step up post on) none = quiet_without on none
    form_without (call callee args) none = absurd (cc (none))
    form_without (call_by callee args) none = absurd (cc (none))
    form_without (comma first second) none =
        let parts = and_parts (calls_nothing first) (calls_nothing second) none in
        both_true _ _ (quiet_without first parts.0) (quiet_without second parts.1)
    form_without (literal number puts) none = puts_without puts none

    puts_without : (puts : CPuts) → puts_call_nothing puts ≡ true → puts_call_only_quiet program puts ≡ true
    puts_without no_puts none = refl
    puts_without (more_puts (put spot type value) others) none =
        let parts = and_parts (calls_nothing value) (puts_call_nothing others) none in
        both_true _ _ (quiet_without value parts.0) (puts_without others parts.1)
