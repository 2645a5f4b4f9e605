-- Keys of frames of data: which key a frame has, and how keys are ordered.
use Rattle.std.specs.Prelude.{ℕ, Bool, nat_lt, not, refl}
use Rattle.std.specs.Coded.{Coded, code_by, coded×, coded_ℕ}
use Rattle.std.specs.Ordering.{nat_cmp, ordering_then}
use Rattle.std.specs.declared.cmp.Ordering.{Ordering}
use Rattle.nim_message.specs.declared.frame.Data.{Data}
use Rattle.nim_store.specs.declared.key.Key.{Key}

-- the key of a frame
abbrev pub key_of : Data → Key
key_of frame =
    record {
      epoch = frame.epoch;
      instance = frame.instance;
      entry = frame.entry;
      object = frame.object;
      version =
          frame.version;
    }

-- by epoch, then by instance, by entry, by object and by version
abbrev pub key_cmp : Key → Key → Ordering
key_cmp a b =
    ordering_then (nat_cmp a.epoch b.epoch)
    (ordering_then (nat_cmp a.instance b.instance)
    (ordering_then (nat_cmp a.entry b.entry)
    (ordering_then (nat_cmp a.object.0 b.object.0) (nat_cmp a.version b.version))))

-- whether a key is of this epoch or a later one
abbrev pub is_not_before : ℕ → Key → Bool
is_not_before epoch key = not (nat_lt key.epoch epoch)

-- a key as its numbers, and back
abbrev pub Numbers : Type 0
Numbers = ℕ × (ℕ × (ℕ × (ℕ × ℕ)))

-- epoch, instance, entry, object and version, in this order
abbrev pub key_numbers : Key → Numbers
key_numbers key = (key.epoch, (key.instance, (key.entry, (key.object.0, key.version))))

-- the key that has these numbers
abbrev pub from_numbers : Numbers → Key
from_numbers p =
    record { epoch = p.0; instance = p.1.0; entry = p.1.1.0; object = record { 0 = p.1.1.1.0 }; version = p.1.1.1.1 }

-- a code that tells keys apart, made of those of their numbers
abbrev pub coded_key : Coded Key
coded_key = code_by Numbers (coded× coded_ℕ (coded× coded_ℕ (coded× coded_ℕ (coded× coded_ℕ coded_ℕ)))) key_numbers
    from_numbers (λ _. refl)
