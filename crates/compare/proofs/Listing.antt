-- One more entry is written behind the images of the first i elements.
use Rattle.std.proofs.Common.{◌≡◌, ℕ, ◌+◌, ◌<◌, List, [], ◌∷◌, ◌++◌, map, length, get_or, take, drop, set, sym, ap, ◌∙◌, append_assoc, arith}
use Rattle.std.proofs.lemmas.List.{drop_more, set_at, map_more, length-map, length-take-le}

pub images_more : {X Y : Type 0} (f : X → Y) (xs : List X) (old : List Y) (i : ℕ) (d : X) → i < length xs → i < length old → set (map f (take i xs) ++ drop i old) i (f (get_or xs i d)) ≡ map f (take (i + 1) xs) ++ drop (i + 1) old
images_more f xs old i d low room =
    let front = map f (take i xs) in
    let y = f (get_or xs i d) in
    ap (λ s. set (front ++ s) i y) (drop_more old i y room)
    ∙ set_at front (get_or old i y) (drop (i + 1) old) y i (length-map (take i xs) f ∙ length-take-le i xs (omega arith))
    ∙ sym (append_assoc front (y ∷ []) (drop (i + 1) old))
    ∙ ap (λ s. s ++ drop (i + 1) old) (sym (map_more f xs i d low))
