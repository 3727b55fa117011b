-- Worked examples: the job of words that are written out, which the check computes.
use Rattle.std.specs.Prelude.{◌≡◌, ℕ, zero, suc, true, List, [], ◌∷◌, Some, None, is_some, codes}
use Rattle.std.proofs.Common.{refl}
use Rattle.clap.proofs.OnLiterals.{clap_on_literals}
use Rattle.jobs.specs.Job.{job_of, order_of, transpile, run_c, run_rust}

in_order : job_of (codes "transpile" ∷ codes "-o" ∷ codes "out" ∷ codes "a.c" ∷ []) ≡ Some (transpile (codes "out") (codes "a.c" ∷ []))
unfolding clap_on_literals
in_order = refl

attached : job_of (codes "transpile" ∷ codes "-oout" ∷ codes "a.c" ∷ []) ≡ Some (transpile (codes "out") (codes "a.c" ∷ []))
unfolding clap_on_literals
attached = refl

behind_equals : job_of (codes "transpile" ∷ codes "-o=out" ∷ codes "a.c" ∷ []) ≡ Some (transpile (codes "out") (codes "a.c" ∷ []))
unfolding clap_on_literals
behind_equals = refl

files_around : job_of (codes "transpile" ∷ codes "a.c" ∷ codes "-o" ∷ codes "out" ∷ codes "b.c" ∷ []) ≡ Some (transpile (codes "out") (codes "a.c" ∷ codes "b.c" ∷ []))
unfolding clap_on_literals
files_around = refl

twice : job_of (codes "transpile" ∷ codes "-o" ∷ codes "out" ∷ codes "-o" ∷ codes "out" ∷ codes "a.c" ∷ []) ≡ None
unfolding clap_on_literals
twice = refl

no_value : job_of (codes "transpile" ∷ codes "a.c" ∷ codes "-o" ∷ []) ≡ None
unfolding clap_on_literals
no_value = refl

no_file : job_of (codes "transpile" ∷ codes "-o" ∷ codes "out" ∷ []) ≡ None
unfolding clap_on_literals
no_file = refl

no_output : job_of (codes "transpile" ∷ codes "a.c" ∷ []) ≡ None
unfolding clap_on_literals
no_output = refl

dash_directory : job_of (codes "transpile" ∷ codes "-o" ∷ codes "-" ∷ codes "a.c" ∷ []) ≡ None
unfolding clap_on_literals
dash_directory = refl

dash_file : job_of (codes "transpile" ∷ codes "-o" ∷ codes "out" ∷ codes "-" ∷ []) ≡ None
unfolding clap_on_literals
dash_file = refl

empty_file : job_of (codes "transpile" ∷ codes "-o" ∷ codes "out" ∷ codes "" ∷ []) ≡ None
unfolding clap_on_literals
empty_file = refl

empty_directory : job_of (codes "transpile" ∷ codes "-o" ∷ codes "" ∷ codes "a.c" ∷ []) ≡ None
unfolding clap_on_literals
empty_directory = refl

end_of_options : job_of (codes "transpile" ∷ codes "-o" ∷ codes "out" ∷ codes "--" ∷ codes "a.c" ∷ []) ≡ None
unfolding clap_on_literals
end_of_options = refl

help_flag : job_of (codes "transpile" ∷ codes "--help" ∷ []) ≡ None
unfolding clap_on_literals
help_flag = refl

help_short : job_of (codes "-h" ∷ []) ≡ None
unfolding clap_on_literals
help_short = refl

help_word : job_of (codes "help" ∷ []) ≡ None
unfolding clap_on_literals
help_word = refl

version : job_of (codes "--version" ∷ []) ≡ None
unfolding clap_on_literals
version = refl

unknown : job_of (codes "transpile" ∷ codes "-o" ∷ codes "out" ∷ codes "--fast" ∷ codes "a.c" ∷ []) ≡ None
unfolding clap_on_literals
unknown = refl

capital : job_of (codes "transpile" ∷ codes "-O" ∷ codes "out" ∷ codes "a.c" ∷ []) ≡ None
unfolding clap_on_literals
capital = refl

capital_word : job_of (codes "Transpile" ∷ codes "-o" ∷ codes "out" ∷ codes "a.c" ∷ []) ≡ None
unfolding clap_on_literals
capital_word = refl

nothing : job_of ([]) ≡ None
unfolding clap_on_literals
nothing = refl

untold : job_of (codes "run-c" ∷ codes "a.c" ∷ []) ≡ Some (run_c 1000000 ([]) (codes "a.c" ∷ []))
unfolding clap_on_literals
untold = refl

told : job_of (codes "run-c" ∷ codes "--order" ∷ codes "0,12,3" ∷ codes "a.c" ∷ codes "--steps=5" ∷ codes "b.c" ∷ []) ≡ Some (run_c 5 (0 ∷ 12 ∷ 3 ∷ []) (codes "a.c" ∷ codes "b.c" ∷ []))
unfolding clap_on_literals
told = refl

no_steps : job_of (codes "run-c" ∷ codes "--steps" ∷ codes "0" ∷ codes "a.c" ∷ []) ≡ None
unfolding clap_on_literals
no_steps = refl

least_steps : job_of (codes "run-c" ∷ codes "--steps" ∷ codes "1" ∷ codes "a.c" ∷ []) ≡ Some (run_c 1 ([]) (codes "a.c" ∷ []))
unfolding clap_on_literals
least_steps = refl

most_steps : job_of (codes "run-c" ∷ codes "--steps" ∷ codes "1000000000" ∷ codes "a.c" ∷ []) ≡ Some (run_c 1000000000 ([]) (codes "a.c" ∷ []))
unfolding clap_on_literals
most_steps = refl

too_many_steps : job_of (codes "run-c" ∷ codes "--steps" ∷ codes "1000000001" ∷ codes "a.c" ∷ []) ≡ None
unfolding clap_on_literals
too_many_steps = refl

ten_digits : job_of (codes "run-c" ∷ codes "--steps" ∷ codes "0000000001" ∷ codes "a.c" ∷ []) ≡ Some (run_c 1 ([]) (codes "a.c" ∷ []))
unfolding clap_on_literals
ten_digits = refl

eleven_digits : job_of (codes "run-c" ∷ codes "--steps" ∷ codes "00000000001" ∷ codes "a.c" ∷ []) ≡ None
unfolding clap_on_literals
eleven_digits = refl

signed_steps : job_of (codes "run-c" ∷ codes "--steps" ∷ codes "+1" ∷ codes "a.c" ∷ []) ≡ None
unfolding clap_on_literals
signed_steps = refl

empty_number : job_of (codes "run-c" ∷ codes "--order" ∷ codes "1,,2" ∷ codes "a.c" ∷ []) ≡ None
unfolding clap_on_literals
empty_number = refl

last_empty : job_of (codes "run-c" ∷ codes "--order" ∷ codes "1," ∷ codes "a.c" ∷ []) ≡ None
unfolding clap_on_literals
last_empty = refl

nine_digits : job_of (codes "run-c" ∷ codes "--order" ∷ codes "999999999" ∷ codes "a.c" ∷ []) ≡ Some (run_c 1000000 (999999999 ∷ []) (codes "a.c" ∷ []))
unfolding clap_on_literals
nine_digits = refl

order_of_ten_digits : job_of (codes "run-c" ∷ codes "--order" ∷ codes "0000000001" ∷ codes "a.c" ∷ []) ≡ None
unfolding clap_on_literals
order_of_ten_digits = refl

order_twice : job_of (codes "run-c" ∷ codes "--order" ∷ codes "1" ∷ codes "--order" ∷ codes "2" ∷ codes "a.c" ∷ []) ≡ None
unfolding clap_on_literals
order_twice = refl

crate_run : job_of (codes "run-rust" ∷ codes "--steps" ∷ codes "7" ∷ codes "out" ∷ []) ≡ Some (run_rust 7 (codes "out"))
unfolding clap_on_literals
crate_run = refl

crate_untold : job_of (codes "run-rust" ∷ codes "out" ∷ []) ≡ Some (run_rust 1000000 (codes "out"))
unfolding clap_on_literals
crate_untold = refl

two_crates : job_of (codes "run-rust" ∷ codes "out" ∷ codes "more" ∷ []) ≡ None
unfolding clap_on_literals
two_crates = refl

order_of_a_crate : job_of (codes "run-rust" ∷ codes "--order" ∷ codes "1" ∷ codes "out" ∷ []) ≡ None
unfolding clap_on_literals
order_of_a_crate = refl

run_of_no_file : job_of (codes "run-c" ∷ []) ≡ None
unfolding clap_on_literals
run_of_no_file = refl

run_of_no_file_but_steps : job_of (codes "run-c" ∷ codes "--steps" ∷ codes "5" ∷ []) ≡ None
unfolding clap_on_literals
run_of_no_file_but_steps = refl

run_of_a_dash : job_of (codes "run-c" ∷ codes "a.c" ∷ codes "-" ∷ []) ≡ None
unfolding clap_on_literals
run_of_a_dash = refl

run_of_an_empty_file : job_of (codes "run-c" ∷ codes "a.c" ∷ codes "" ∷ []) ≡ None
unfolding clap_on_literals
run_of_an_empty_file = refl

run_of_files : job_of (codes "run-c" ∷ codes "b.c" ∷ codes "a.c" ∷ codes "b.c" ∷ []) ≡ Some (run_c 1000000 ([]) (codes "b.c" ∷ codes "a.c" ∷ codes "b.c" ∷ []))
unfolding clap_on_literals
run_of_files = refl

steps_twice : job_of (codes "run-c" ∷ codes "--steps" ∷ codes "1" ∷ codes "--steps" ∷ codes "1" ∷ codes "a.c" ∷ []) ≡ None
unfolding clap_on_literals
steps_twice = refl

empty_steps : job_of (codes "run-c" ∷ codes "--steps=" ∷ codes "a.c" ∷ []) ≡ None
unfolding clap_on_literals
empty_steps = refl

steps_with_a_letter : job_of (codes "run-c" ∷ codes "--steps" ∷ codes "1x" ∷ codes "a.c" ∷ []) ≡ None
unfolding clap_on_literals
steps_with_a_letter = refl

steps_with_a_blank : job_of (codes "run-c" ∷ codes "--steps" ∷ codes " 1" ∷ codes "a.c" ∷ []) ≡ None
unfolding clap_on_literals
steps_with_a_blank = refl

steps_without_a_number : job_of (codes "run-c" ∷ codes "a.c" ∷ codes "--steps" ∷ []) ≡ None
unfolding clap_on_literals
steps_without_a_number = refl

steps_behind_o : job_of (codes "run-c" ∷ codes "-o" ∷ codes "out" ∷ codes "a.c" ∷ []) ≡ None
unfolding clap_on_literals
steps_behind_o = refl

empty_order : job_of (codes "run-c" ∷ codes "--order=" ∷ codes "a.c" ∷ []) ≡ None
unfolding clap_on_literals
empty_order = refl

order_of_one : job_of (codes "run-c" ∷ codes "--order=7" ∷ codes "a.c" ∷ []) ≡ Some (run_c 1000000 (7 ∷ []) (codes "a.c" ∷ []))
unfolding clap_on_literals
order_of_one = refl

first_empty : job_of (codes "run-c" ∷ codes "--order" ∷ codes ",1" ∷ codes "a.c" ∷ []) ≡ None
unfolding clap_on_literals
first_empty = refl

order_with_a_blank : job_of (codes "run-c" ∷ codes "--order" ∷ codes "1, 2" ∷ codes "a.c" ∷ []) ≡ None
unfolding clap_on_literals
order_with_a_blank = refl

nine_digits_of_zeros : job_of (codes "run-c" ∷ codes "--order" ∷ codes "000000001" ∷ codes "a.c" ∷ []) ≡ Some (run_c 1000000 (1 ∷ []) (codes "a.c" ∷ []))
unfolding clap_on_literals
nine_digits_of_zeros = refl

end_as_a_value : job_of (codes "run-c" ∷ codes "--order" ∷ codes "--" ∷ codes "a.c" ∷ []) ≡ None
unfolding clap_on_literals
end_as_a_value = refl

end_as_a_directory : job_of (codes "transpile" ∷ codes "-o" ∷ codes "--" ∷ codes "a.c" ∷ []) ≡ None
unfolding clap_on_literals
end_as_a_directory = refl

end_behind : job_of (codes "run-rust" ∷ codes "out" ∷ codes "--" ∷ []) ≡ None
unfolding clap_on_literals
end_behind = refl

store_of_a_run : job_of (codes "run-c" ∷ codes "--store" ∷ codes "64" ∷ codes "a.c" ∷ []) ≡ None
unfolding clap_on_literals
store_of_a_run = refl

store_of_a_crate : job_of (codes "run-rust" ∷ codes "--store" ∷ codes "64" ∷ codes "out" ∷ []) ≡ None
unfolding clap_on_literals
store_of_a_crate = refl

crate_of_no_name : job_of (codes "run-rust" ∷ []) ≡ None
unfolding clap_on_literals
crate_of_no_name = refl

crate_of_a_dash : job_of (codes "run-rust" ∷ codes "-" ∷ []) ≡ None
unfolding clap_on_literals
crate_of_a_dash = refl

crate_of_an_empty_name : job_of (codes "run-rust" ∷ codes "" ∷ []) ≡ None
unfolding clap_on_literals
crate_of_an_empty_name = refl

crate_behind : job_of (codes "run-rust" ∷ codes "out" ∷ codes "--steps=1000000000" ∷ []) ≡ Some (run_rust 1000000000 (codes "out"))
unfolding clap_on_literals
crate_behind = refl

crate_of_too_many_units : job_of (codes "run-rust" ∷ codes "out" ∷ codes "--steps=1000000001" ∷ []) ≡ None
unfolding clap_on_literals
crate_of_too_many_units = refl

crate_of_no_unit : job_of (codes "run-rust" ∷ codes "--steps" ∷ codes "0" ∷ codes "out" ∷ []) ≡ None
unfolding clap_on_literals
crate_of_no_unit = refl

crate_steps_twice : job_of (codes "run-rust" ∷ codes "--steps=1" ∷ codes "out" ∷ codes "--steps=1" ∷ []) ≡ None
unfolding clap_on_literals
crate_steps_twice = refl

help_of_a_run : job_of (codes "run-c" ∷ codes "a.c" ∷ codes "--help" ∷ []) ≡ None
unfolding clap_on_literals
help_of_a_run = refl

help_on_a_run : job_of (codes "help" ∷ codes "run-c" ∷ []) ≡ None
unfolding clap_on_literals
help_on_a_run = refl

options_before : job_of (codes "-o" ∷ codes "out" ∷ codes "transpile" ∷ codes "a.c" ∷ []) ≡ None
unfolding clap_on_literals
options_before = refl

two_jobs : job_of (codes "transpile" ∷ codes "-o" ∷ codes "out" ∷ codes "run-c" ∷ codes "a.c" ∷ []) ≡ Some (transpile (codes "out") (codes "run-c" ∷ codes "a.c" ∷ []))
unfolding clap_on_literals
two_jobs = refl

long_output : job_of (codes "transpile" ∷ codes "--output" ∷ codes "out" ∷ codes "a.c" ∷ []) ≡ None
unfolding clap_on_literals
long_output = refl

attached_and_apart : job_of (codes "transpile" ∷ codes "-oout" ∷ codes "-o" ∷ codes "out" ∷ codes "a.c" ∷ []) ≡ None
unfolding clap_on_literals
attached_and_apart = refl

-- zeros with a comma between two, one more than so many
many : ℕ → List ℕ
many zero = 48 ∷ []
many (suc n) = 48 ∷ 44 ∷ many n

longest_order : is_some (order_of (many 9999)) ≡ true
unfolding many
longest_order = refl

too_long_order : order_of (many 10000) ≡ None
unfolding many
too_long_order = refl
