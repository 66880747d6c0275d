-- What clap found of the words is what they ask for.
use Rattle.std.proofs.Common.{rules, ◌≡◌, List, [], ◌∷◌, true, false, None, refl}
use Rattle.std.specs.Prelude.{option_and_then}
use Rattle.clap.specs.Walk.{Text, is_empty}
use Rattle.clap.specs.Kinds.{IsAmong, Kinds}
use Rattle.clap.specs.Simple.{is_simple, subcommand_of}
use Rattle.clap.specs.Faults.{fault_of, is_simple_and_free}
use Rattle.clap.specs.declared.error.kind.ErrorKind.{ErrorKind}
use Rattle.clap.proofs.OnLiterals.{clap_on_literals}
use Rattle.ts_script.specs.Words.{asked, asked_by, parsed, tilestore_app, upkeep_app, optioned_app, objects_app, stamped_app, interval_app, read_app, delete_app, consolidate_app, gen_app, bare_app}

pub simple : is_simple tilestore_app ≡ true
unfolding tilestore_app upkeep_app optioned_app objects_app stamped_app interval_app read_app delete_app consolidate_app gen_app bare_app clap_on_literals
simple = refl

pub simple_and_free : is_simple_and_free tilestore_app ≡ true
unfolding tilestore_app upkeep_app optioned_app objects_app stamped_app interval_app read_app delete_app consolidate_app gen_app bare_app clap_on_literals
simple_and_free = refl

-- where clap takes the words
pub asked_taken : (words : List Text) → fault_of tilestore_app words ≡ [] → option_and_then (λ found. asked_by found.0 found.1) (subcommand_of tilestore_app words) ≡ asked words
unfolding asked parsed
asked_taken words none = rw none refl

some_kinds : (k : ErrorKind) (ks : Kinds) → IsAmong k ks → is_empty ks ≡ false
some_kinds k [] is = absurd is
some_kinds k (x ∷ xs) is = search rules

-- where clap refuses them
pub asked_refused : (words : List Text) (k : ErrorKind) → IsAmong k (fault_of tilestore_app words) → asked words ≡ None
unfolding asked parsed
asked_refused words k is = rw (some_kinds k (fault_of tilestore_app words) is) refl
