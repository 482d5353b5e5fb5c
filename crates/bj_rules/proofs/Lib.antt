mod FirstLaws
mod ModifierLaws
