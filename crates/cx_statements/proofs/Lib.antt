mod Does
