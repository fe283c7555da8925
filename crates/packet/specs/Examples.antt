-- The packets that paper 01's pier examples speak of: what a writer is given for them. What holds of them stands in `promises:Pier`.
use Rattle.std.specs.Prelude.{List, ℕ, replicate}
use Rattle.packet.specs.declared.Content.{Content}
use Rattle.packet.specs.declared.Content.TheVariants.{Hold, Text}
use Rattle.packet.specs.declared.Fields.{Fields}

-- type t with n codes; time, certificate and signature are of no account to the examples
abbrev pub sample : ℕ → ℕ → Content → List ℕ → Fields
sample t n c ds =
    record { typenumber = t; codes = n; content = c; digits = ds; time = 1700000000; certificate = replicate 12 1; signature = replicate 64 7 }

-- type 15 with one code and t bytes of text
abbrev pub text_sample : ℕ → Fields
text_sample t = sample 15 1 (Text 1 1 t) (replicate 35 1)

-- type 21 with no code
abbrev pub hold_sample : Fields
hold_sample = sample 21 0 (Hold 5) (replicate 35 0)
