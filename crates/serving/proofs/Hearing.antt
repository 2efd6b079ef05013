-- A terminal that is given more bytes, or whose input ends. Assumes nothing.
use Rattle.std.proofs.Common.{◌≡◌, ℕ, ◌+◌, ◌<◌, ◌≤◌, List, [], ◌∷◌, ◌++◌, length, get_or, take, Some, None, Option, sym, refl, ap, ◌∙◌, subst}
use Rattle.std.proofs.lemmas.List.{append-nil, append_assoc, take_more, take_all}
use Rattle.replies.specs.declared.Reply.{Reply}
use Rattle.terminal.specs.declared.Terminal.{Terminal}
use Rattle.terminal.specs.Scripts.{lines_of, Answered, told}
use Rattle.terminal.specs.Input.{Heard}
use Rattle.serving.specs.Input.{Hears, HearsOn, HasAnswered}

-- no byte
pub hears_on_none : (t : Terminal) → HearsOn t [] t
hears_on_none t script rs h = record {
  more = [];
  heard = subst (λ (s : List ℕ). Heard s (rs ++ []) t) (sym (append-nil script)) (subst (λ (q : List Reply). Heard script q t) (sym (append-nil rs)) h);
}

told_after : (rs qs : List Reply) (r : Option Reply) → told (rs ++ qs) r ≡ rs ++ told qs r
told_after rs qs None = refl
told_after rs qs (Some a) = append_assoc rs qs (a ∷ [])

-- the next of some bytes
pub hears_on_more : {t m u : Terminal} (bytes : List ℕ) (i : ℕ) (r : Option Reply) → i < length bytes → HearsOn t (take i bytes) m → ((script : List ℕ) (rs : List Reply) → Heard script rs m → Heard (script ++ get_or bytes i 0 ∷ []) (told rs r) u) → HearsOn t (take (i + 1) bytes) u
hears_on_more {t} {m} {u} bytes i r less on next script rs h =
    let so = on script rs h in
    let heard = next (script ++ take i bytes) (rs ++ so.more) so.heard in
    let so_far = ap (λ (s : List ℕ). script ++ s) (sym (take_more bytes i 0 less)) in record {
      more = told so.more r;
      heard =
          subst (λ (s : List ℕ). Heard s (rs ++ told so.more r) u) (append_assoc script (take i bytes) (get_or bytes i 0 ∷ []) ∙ so_far)
          (subst (λ (q : List Reply). Heard ((script ++ take i bytes) ++ get_or bytes i 0 ∷ []) q u) (told_after rs so.more r) heard);
    }

-- all of them
pub hears_on_all : {t u : Terminal} (bytes : List ℕ) (i : ℕ) → length bytes ≤ i → HearsOn t (take i bytes) u → HearsOn t bytes u
hears_on_all {t} {u} bytes i all on = subst (λ (s : List ℕ). HearsOn t s u) (take_all i bytes all) on

pub hears_after : {t u : Terminal} (bytes : List ℕ) → HearsOn t bytes u → Hears t → Hears u
hears_after bytes on h =
    let so = on h.script h.replies h.heard in record { script = h.script ++ bytes; replies = h.replies ++ so.more; heard = so.heard }

pub ends_so : {t u : Terminal} (r : Option Reply) → ((script : List ℕ) (rs : List Reply) → Heard script rs t → Answered (lines_of script) (told rs r) u.desk) → Hears t → HasAnswered u
ends_so r f h = record { script = h.script; replies = told h.replies r; answered = f h.script h.replies h.heard }

-- the beginning of a script
pub hears_none : {t : Terminal} → Heard [] [] t → Hears t
hears_none h = record { script = []; replies = []; heard = h }
