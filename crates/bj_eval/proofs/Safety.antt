-- What goes on safely with allowed answers, and how such parts are put together.
use Rattle.std.proofs.Common.{◌≡◌, ℕ, List, [], ◌∷◌, ◌++◌, refl, sym, ap, ◌∙◌, subst, append_assoc}
use Rattle.bj_core.specs.declared.frame.Frame.{Frame}
use Rattle.bj_core.specs.declared.program.Program.{Program}
use Rattle.bj_core.specs.declared.types.Val.{Val}
use Rattle.bj_core.specs.declared.action.Action.{Action}
use Rattle.bj_core.specs.declared.action.Action.TheVariants as act
use Rattle.bj_core.specs.declared.action.Answer.{Answer}
use Rattle.bj_core.specs.declared.action.Answer.TheVariants as answer
use Rattle.bj_eval.specs.declared.activation.Activation.{Activation}
use Rattle.bj_eval.specs.Allowed.{Allows}
use Rattle.bj_eval.specs.Evaluation.{Context, Way, Throws, Result, Went, Wants, Wrong, Unfit, On, ask, at_line, at_point, when_done}
use Rattle.bj_eval.specs.Frames.{frame_of}

module _ (program : Program) where
  -- the answers are allowed to what asks
  abbrev pub AllowedFrom : (List Answer → Result) → List Answer → Type 0
  AllowedFrom h xs = (front rest : List Answer) (x : Answer) (a : Action) (fs : List Frame) → xs ≡ front ++ x ∷ rest → h front ≡ Wants a fs → Allows program a x

  -- what has completed has used up some answers, and would so with others behind them
  pub record Uses (h : List Answer → Result) (xs : List Answer) (w : Way) (s : Activation) (ys : List Answer) : Type 0 where
    pub used : List Answer
    pub split : xs ≡ used ++ ys
    pub same : (zs : List Answer) → h (used ++ zs) ≡ Went w s zs

  -- the ways in which a part may complete
  abbrev pub Ways : Type 1
  Ways = Way → Activation → Type 0

  abbrev pub Safe : Ways → (List Answer → Result) → List Answer → Result → Type 0
  Safe G h xs (Went w s ys) = Uses h xs w s ys × G w s
  Safe G h xs (Wants a fs) = Unit {0}
  Safe G h xs Wrong = ⊥
  Safe G h xs Unfit = ⊥

  abbrev pub IsSafe : Ways → (List Answer → Result) → Type 0
  IsSafe G h = (xs : List Answer) → AllowedFrom h xs → Safe G h xs (h xs)

  -- where a throwable may be thrown
  abbrev pub MayThrow : Ways → Type 0
  MayThrow G = (r : Val) (s : Activation) → G (Throws r) s

  -- what goes on after some answers goes on after more
  glued : (G : Ways) (h k : List Answer → Result) (front xs ys : List Answer) → xs ≡ front ++ ys → ((zs : List Answer) → h (front ++ zs) ≡ k zs) → (r : Result) → Safe G k ys r → Safe G h xs r
  glued G h k front xs ys e same (Went w s zs) safe =
      let u = safe.0 in
      (record { used = front ++ u.used; split = e ∙ ap (λ l. front ++ l) u.split ∙ sym (append_assoc front u.used zs); same = λ ws. ap h (append_assoc front u.used ws) ∙ same (u.used ++ ws) ∙ u.same ws }, safe.1)
  glued G h k front xs ys e same (Wants a fs) safe = tt
  glued G h k front xs ys e same Wrong safe = safe
  glued G h k front xs ys e same Unfit safe = safe

  allowed_on : (h k : List Answer → Result) (front xs ys : List Answer) → xs ≡ front ++ ys → ((zs : List Answer) → h (front ++ zs) ≡ k zs) → AllowedFrom h xs → AllowedFrom k ys
  allowed_on h k front xs ys e same allowed f rest x a fs cut_at wants =
      allowed (front ++ f) rest x a fs (e ∙ ap (λ l. front ++ l) cut_at ∙ sym (append_assoc front f (x ∷ rest))) (same f ∙ wants)

  -- after what has completed
  goes_after : (G : Ways) (h k : List Answer → Result) (xs ys used : List Answer) → xs ≡ used ++ ys → ((zs : List Answer) → h (used ++ zs) ≡ k zs) → AllowedFrom h xs → IsSafe G k → Safe G h xs (k ys)
  goes_after G h k xs ys used e same allowed g = glued G h k used xs ys e same (k ys) (g ys (allowed_on h k used xs ys e same allowed))

  -- what asks for nothing
  pub at_once : (G : Ways) (h : List Answer → Result) (w : Way) (s : Activation) → G w s → ((xs : List Answer) → h xs ≡ Went w s xs) → IsSafe G h
  at_once G h w s good e xs allowed = subst (Safe G h xs) (sym (e xs)) (record { used = []; split = refl; same = e }, good)

  -- what is done with the result of a part, and passes on what the part wants
  by_result : (A G : Ways) (h : List Answer → Result) (b : Result → Result) (xs : List Answer) → ((a : Action) (fs : List Frame) → b (Wants a fs) ≡ Wants a fs) → AllowedFrom (λ xs. b (h xs)) xs
      → ((w : Way) (s : Activation) → A w s → IsSafe G (λ zs. b (Went w s zs))) → (r : Result) → Safe A h xs r → Safe G (λ xs. b (h xs)) xs (b r)
  by_result A G h b xs asks allowed g (Went w s ys) safe =
      let u = safe.0 in
      goes_after G (λ xs. b (h xs)) (λ zs. b (Went w s zs)) xs ys u.used u.split (λ zs. ap b (u.same zs)) allowed (g w s safe.1)
  by_result A G h b xs asks allowed g (Wants a fs) safe = subst (Safe G (λ xs. b (h xs)) xs) (sym (asks a fs)) tt
  by_result A G h b xs asks allowed g Wrong safe = absurd safe
  by_result A G h b xs asks allowed g Unfit safe = absurd safe

  pub then_safe : (A G : Ways) (h : List Answer → Result) (b : Result → Result) → ((a : Action) (fs : List Frame) → b (Wants a fs) ≡ Wants a fs) → IsSafe A h
      → ((w : Way) (s : Activation) → A w s → IsSafe G (λ zs. b (Went w s zs))) → IsSafe G (λ xs. b (h xs))
  then_safe A G h b asks first g xs allowed =
      by_result A G h b xs asks allowed g (h xs) (first xs (λ front rest x a fs cut_at wants. allowed front rest x a fs cut_at (ap b wants ∙ asks a fs)))

  -- more ways
  pub weaker : (A G : Ways) (h : List Answer → Result) → ((w : Way) (s : Activation) → A w s → G w s) → IsSafe A h → IsSafe G h
  weaker A G h weak safe = then_safe A G h (λ r. r) (λ a fs. refl) safe (λ w s good. at_once G (Went w s) w s (weak w s good) (λ xs. refl))

  -- two that are the same for all answers
  pub same_safe : (G : Ways) (h k : List Answer → Result) → ((xs : List Answer) → h xs ≡ k xs) → IsSafe G h → IsSafe G k
  same_safe G h k e safe = let same : h ≡ k = λ j xs. e xs j in subst (IsSafe G) same safe

  -- an action
  pub ask_safe : (G : Ways) (a : Action) (c : Context) (s : Activation) (f : Answer → List Answer → Result) → ((x : Answer) → Allows program a x → IsSafe G (f x)) → IsSafe G (λ xs. ask a c s xs f)
  ask_safe G a c s f g [] allowed = tt
  ask_safe G a c s f g (x ∷ ys) allowed =
      goes_after G (λ xs. ask a c s xs f) (f x) (x ∷ ys) ys (x ∷ []) refl (λ zs. refl) allowed (g x (allowed [] ys x a (frame_of c.invocation s ∷ c.outer) refl refl))

  -- an action that only answers that it is done
  pub done_safe : (G : Ways) (s : Activation) (f : On) → IsSafe G (f s) → (x : Answer) → x ≡ answer.Done → IsSafe G (when_done s f x)
  done_safe G s f g x e = subst (λ x. IsSafe G (when_done s f x)) (sym e) g

  -- a step point
  pub point_safe : (G : Ways) (c : Context) (line : ℕ) (f : On) (s : Activation) → IsSafe G (f (at_line s line)) → IsSafe G (at_point c line f s)
  point_safe G c line f s g = ask_safe G (act.Point _) c (at_line s line) (when_done (at_line s line) f) (done_safe G (at_line s line) f g)
